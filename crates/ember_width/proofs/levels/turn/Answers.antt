use mir.Syntax.{w128}
use Rattle.ember_algebra.proofs.Exact.{Code, stored, wide, ◌⊠◌, ◌⊟◌, ◌&◌, done, exact, bounded, no_overflow}
use Rattle.ember_width.specs.Broad.{most_cross}
use Rattle.ember_width.proofs.levels.turn.Goals as goal

abbrev code : Code
code = stored w128 (wide 0 ⊠ wide 3) ⊟ stored w128 (wide 1 ⊠ wide 2)

pub overflow_sub-result : goal.overflow_sub-result
overflow_sub-result c =
    let g = c.args.first.now in let h = c.args.second.now in
    no_overflow (g.small_a & g.small_b & h.small_a & h.small_b & done) w128 code tt

pub returns-clause-value : goal.returns-clause-value
returns-clause-value c =
    let g = c.args.first.now in let h = c.args.second.now in
    exact (g.small_a & g.small_b & h.small_a & h.small_b & done) (stored w128 code) tt

pub returns-clause-small : goal.returns-clause-small
returns-clause-small c =
    let g = c.args.first.now in let h = c.args.second.now in
    bounded (g.small_a & g.small_b & h.small_a & h.small_b & done) most_cross (stored w128 code) tt
