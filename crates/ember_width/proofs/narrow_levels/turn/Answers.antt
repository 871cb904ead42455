use mir.Syntax.{w64}
use Rattle.ember_algebra.proofs.Exact.{Code, stored, narrow, ◌⊠◌, ◌⊟◌, ◌&◌, done, exact, bounded, no_overflow}
use Rattle.ember_width.proofs.narrow_levels.turn.Goals as goal

abbrev code : Code
code = stored w64 (narrow 0 ⊠ narrow 3) ⊟ stored w64 (narrow 1 ⊠ narrow 2)

pub overflow_sub-result : goal.overflow_sub-result
overflow_sub-result c =
    let g = c.args.first.now in let h = c.args.second.now in
    no_overflow (g.small_a & g.small_b & h.small_a & h.small_b & done) w64 code tt

pub returns-clause-value : goal.returns-clause-value
returns-clause-value c =
    let g = c.args.first.now in let h = c.args.second.now in
    exact (g.small_a & g.small_b & h.small_a & h.small_b & done) (stored w64 code) tt

pub returns-clause-small : goal.returns-clause-small
returns-clause-small c =
    let g = c.args.first.now in let h = c.args.second.now in
    bounded (g.small_a & g.small_b & h.small_a & h.small_b & done) 2251799679467522 (stored w64 code) tt
