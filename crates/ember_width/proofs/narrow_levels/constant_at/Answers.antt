use mir.Syntax.{w64}
use Rattle.ember_algebra.proofs.Exact.{Code, stored, narrow, ◌⊠◌, ◌⊟◌, ◌&◌, done, exact, bounded}
use Rattle.ember_width.proofs.narrow_levels.constant_at.Goals as goal

abbrev code : Code
code = stored w64 (narrow 0 ⊟ stored w64 (narrow 1 ⊠ narrow 2))

pub returns-clause-value : goal.returns-clause-value
returns-clause-value c = exact (c.requires.d & c.requires.n & c.requires.at & done) code tt

pub returns-clause-small : goal.returns-clause-small
returns-clause-small c = bounded (c.requires.d & c.requires.n & c.requires.at & done) 1099511627775 code tt
