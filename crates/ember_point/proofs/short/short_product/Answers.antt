use mir.Syntax.{w64, w128}
use Rattle.ember_algebra.proofs.Exact.{Code, stored, kept, wide, ◌⊠◌, ◌&◌, done, exact, bounded}
use Rattle.ember_point.proofs.short.short_product.Goals as goal

abbrev code : Code
code = stored w128 (wide 0 ⊠ stored w128 (stored w64 (kept 1)))

pub returns-clause-value : goal.returns-clause-value
returns-clause-value c = exact (c.requires.a & c.requires.x & done) code tt

pub returns-clause-small : goal.returns-clause-small
returns-clause-small c = bounded (c.requires.a & c.requires.x & done) 2535301200451847116425223208961 code tt
