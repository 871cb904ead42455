use mir.Syntax.{w128}
use Rattle.ember_algebra.proofs.Exact.{Code, stored, wide, kept, ◌⊠◌, ◌&◌, done, exact, bounded, no_overflow}
use Rattle.ember_width.specs.Broad.{most_minor}
use Rattle.ember_width.proofs.levels.coordinate_at.Goals as goal

abbrev code : Code
code = wide 0 ⊠ kept 1

pub overflow_mul-result : goal.overflow_mul-result
overflow_mul-result c = no_overflow (c.requires.at & c.requires.w & done) w128 code tt

pub returns-clause-value : goal.returns-clause-value
returns-clause-value c = exact (c.requires.at & c.requires.w & done) (stored w128 code) tt

pub returns-clause-small : goal.returns-clause-small
returns-clause-small c = bounded (c.requires.at & c.requires.w & done) most_minor (stored w128 code) tt
