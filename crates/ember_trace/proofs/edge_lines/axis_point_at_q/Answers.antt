use mir.Syntax.{w32, w64}
use Rattle.ember_algebra.proofs.Exact.{Code, input, stored, narrow, ◌⊠◌, ◌⊞◌, ◌&◌, done, exact, bounded}
use Rattle.ember_trace.specs.LineSizes.{most_step, most_moved}
use Rattle.ember_trace.proofs.edge_lines.axis_point_at_q.Goals as goal

-- the numbers are dq, dp, d and the coordinate
abbrev e : Code
e = narrow 2 ⊞ stored w64 (narrow 1 ⊠ stored w64 (stored w32 (input 3)))

pub invariant_of-result : goal.invariant_of-result
invariant_of-result c =
    let l = c.args.line.now in
    record {
      small_n = bounded (l.small_dq & l.small_dp & l.small_d & c.requires & done) most_step (narrow 0) tt;
      small_e =
          bounded (l.small_dq & l.small_dp & l.small_d & c.requires & done) most_moved (stored w64 e) tt;
    }

pub returns-clause-e : goal.returns-clause-e
returns-clause-e c =
    let l = c.args.line.now in exact (l.small_dq & l.small_dp & l.small_d & c.requires & done) (stored w64 e) tt
