use Rattle.std.proofs.Common.{◌∙◌, ap, ◌-ℤ◌}
use mir.Syntax.{w128}
use Rattle.ember_algebra.specs.Sign.{sgn}
use Rattle.ember_algebra.proofs.Exact.{stored, kept, narrow, ◌⊠◌, ◌⊟◌, ◌&◌, done, exact, bounded}
use Rattle.ember_trace.specs.LineSizes.{most_moved}
use Rattle.ember_trace.proofs.edge_lines.axis_point_side.Goals as goal

pub product-requires-clause-a : goal.product-requires-clause-a
product-requires-clause-a c = bounded (c.args.point.now.small_n & done) most_moved (narrow 0) tt

pub returns : goal.returns
returns c =
    let x = c.product.ensures in let y = c.product-2.ensures in
    let k = c.args.point.now in let r = c.requires in
    let difference = exact (x.small & y.small & done) (stored w128 (kept 0 ⊟ kept 1)) tt in
    let products = exact (k.small_n & r.x & k.small_e & r.w & done) (narrow 0 ⊠ narrow 1 ⊟ narrow 2 ⊠ narrow 3) tt in
    c.sign_of.ensures ∙ ap sgn (difference ∙ (λ i. x.value i -ℤ y.value i) ∙ products)
