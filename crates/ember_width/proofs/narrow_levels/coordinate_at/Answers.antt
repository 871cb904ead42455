use mir.Syntax.{w64}
use Rattle.ember_algebra.proofs.Exact.{Code, stored, narrow, ◌⊠◌, ◌&◌, done, exact, bounded, no_overflow}
use Rattle.ember_width.proofs.narrow_levels.coordinate_at.Goals as goal

abbrev code : Code
code = narrow 0 ⊠ narrow 1

pub overflow_mul-result : goal.overflow_mul-result
overflow_mul-result c = no_overflow (c.requires.at & c.requires.w & done) w64 code tt

pub returns-clause-value : goal.returns-clause-value
returns-clause-value c = exact (c.requires.at & c.requires.w & done) (stored w64 code) tt

pub returns-clause-small : goal.returns-clause-small
returns-clause-small c = bounded (c.requires.at & c.requires.w & done) 4611685743549485056 (stored w64 code) tt
