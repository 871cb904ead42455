use Rattle.std.proofs.Common.{List, [], ◌∷◌, ℕ}
use mir.Syntax.{w32, w64}
use Rattle.ember_algebra.proofs.Exact.{Code, input, stored, narrow, ◌⊠◌, ◌⊟◌, Inputs, ◌&◌, done, exact, bounded, no_overflow}
use Rattle.ember_model.specs.Limits.{broad_limit}
use Rattle.ember_trace.specs.LineSizes.{most_step, most_edge}
use Rattle.ember_trace.proofs.edge_lines.line_through.Goals as goal

abbrev place : ℕ → Code
place i = stored w64 (stored w32 (input i))

-- s times the way along q, and along p; the places are from_p, from_q, to_p and to_q
abbrev dq : Code
dq = narrow 4 ⊠ stored w64 (place 3 ⊟ place 1)

abbrev dp : Code
dp = narrow 4 ⊠ stored w64 (place 2 ⊟ place 0)

abbrev ap : Code
ap = stored w64 dq ⊠ place 0

abbrev bq : Code
bq = stored w64 dp ⊠ place 1

abbrev d : Code
d = stored w64 ap ⊟ stored w64 bq

abbrev bounds : List ℕ
bounds = broad_limit ∷ broad_limit ∷ broad_limit ∷ broad_limit ∷ 1 ∷ []

inputs : (c : goal.Start) → Inputs bounds (c.args.from_p ∷ c.args.from_q ∷ c.args.to_p ∷ c.args.to_q ∷ c.args.s ∷ [])
inputs c = c.requires.from_p & c.requires.from_q & c.requires.to_p & c.requires.to_q & c.requires.s & done

pub overflow_mul-dq : goal.overflow_mul-dq
overflow_mul-dq c = no_overflow (inputs c) w64 dq tt

pub overflow_mul-dp : goal.overflow_mul-dp
overflow_mul-dp c = no_overflow (inputs c) w64 dp tt

pub overflow_mul-d : goal.overflow_mul-d
overflow_mul-d c = no_overflow (inputs c) w64 ap tt

pub overflow_mul-d-2 : goal.overflow_mul-d-2
overflow_mul-d-2 c = no_overflow (inputs c) w64 bq tt

pub overflow_sub-d : goal.overflow_sub-d
overflow_sub-d c = no_overflow (inputs c) w64 d tt

pub invariant_of-result : goal.invariant_of-result
invariant_of-result c =
    record {
      small_dq = bounded (inputs c) most_step (stored w64 dq) tt;
      small_dp = bounded (inputs c) most_step (stored w64 dp) tt;
      small_d = bounded (inputs c) most_edge (stored w64 d) tt;
    }

pub returns-clause-dq : goal.returns-clause-dq
returns-clause-dq c =
    let r = c.requires in exact (r.from_p & r.from_q & r.to_p & r.to_q & r.s & done) (stored w64 dq) tt

pub returns-clause-dp : goal.returns-clause-dp
returns-clause-dp c =
    let r = c.requires in exact (r.from_p & r.from_q & r.to_p & r.to_q & r.s & done) (stored w64 dp) tt

pub returns-clause-d : goal.returns-clause-d
returns-clause-d c =
    let r = c.requires in exact (r.from_p & r.from_q & r.to_p & r.to_q & r.s & done) (stored w64 d) tt
