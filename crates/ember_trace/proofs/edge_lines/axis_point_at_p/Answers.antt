use Rattle.std.proofs.Common.{◌≡◌, ◌∙◌, arith, ℤ, pos, ◌-ℤ◌, neg_ℤ}
use borrow.Author.Differences.{ints}
use mir.Syntax.{w32, w64}
use Rattle.ember_algebra.proofs.Exact.{Code, input, number, stored, narrow, ◌⊠◌, ◌⊟◌, ◌&◌, done, exact, bounded}
use Rattle.ember_trace.specs.LineSizes.{most_step, most_moved}
use Rattle.ember_trace.proofs.edge_lines.axis_point_at_p.Goals as goal

-- the numbers are dp, dq, d and the coordinate
abbrev n : Code
n = number (pos 0) ⊟ narrow 0

abbrev e : Code
e = narrow 2 ⊟ stored w64 (narrow 1 ⊠ stored w64 (stored w32 (input 3)))

zero_less : (z : ℤ) → pos 0 -ℤ z ≡ neg_ℤ z
zero_less z = omega (arith, ints)

pub invariant_of-result : goal.invariant_of-result
invariant_of-result c =
    let l = c.args.line.now in
    record {
      small_n = bounded (l.small_dp & l.small_dq & l.small_d & c.requires & done) most_step (stored w64 n) tt;
      small_e = bounded (l.small_dp & l.small_dq & l.small_d & c.requires & done) most_moved (stored w64 e) tt;
    }

pub returns-clause-n : goal.returns-clause-n
returns-clause-n c = let l = c.args.line.now in exact (l.small_dp & done) (stored w64 n) tt ∙ zero_less l.dp

pub returns-clause-e : goal.returns-clause-e
returns-clause-e c =
    let l = c.args.line.now in exact (l.small_dp & l.small_dq & l.small_d & c.requires & done) (stored w64 e) tt
