use mir.Syntax.{w64}
use Rattle.ember_algebra.proofs.Exact.{Code, stored, narrow, ◌⊠◌, ◌⊟◌, ◌&◌, done, exact, bounded, no_overflow}
use Rattle.ember_width.specs.Broad.{most_line}
use Rattle.ember_width.proofs.levels.constant_at.Goals as goal

abbrev code : Code
code = narrow 0 ⊟ stored w64 (narrow 1 ⊠ narrow 2)

pub overflow_sub-result : goal.overflow_sub-result
overflow_sub-result c = no_overflow (c.requires.d & c.requires.n & c.requires.at & done) w64 code tt

pub returns-clause-value : goal.returns-clause-value
returns-clause-value c = exact (c.requires.d & c.requires.n & c.requires.at & done) (stored w64 code) tt

pub returns-clause-small : goal.returns-clause-small
returns-clause-small c = bounded (c.requires.d & c.requires.n & c.requires.at & done) most_line (stored w64 code) tt
