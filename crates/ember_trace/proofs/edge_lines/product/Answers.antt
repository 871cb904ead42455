use mir.Syntax.{w128}
use Rattle.ember_algebra.proofs.Exact.{Code, stored, wide, ◌⊠◌, ◌&◌, done, exact, bounded}
use Rattle.ember_trace.specs.LineSizes.{most_product}
use Rattle.ember_trace.proofs.edge_lines.product.Goals as goal

abbrev code : Code
code = stored w128 (wide 0 ⊠ wide 1)

pub returns-clause-value : goal.returns-clause-value
returns-clause-value c = exact (c.requires.a & c.requires.x & done) code tt

pub returns-clause-small : goal.returns-clause-small
returns-clause-small c = bounded (c.requires.a & c.requires.x & done) most_product code tt
