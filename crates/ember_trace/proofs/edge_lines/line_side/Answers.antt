use Rattle.std.proofs.Common.{◌∙◌, ap, ◌-ℤ◌}
use mir.Syntax.{w128}
use Rattle.ember_algebra.specs.Sign.{sgn}
use Rattle.ember_algebra.proofs.Exact.{Code, stored, kept, narrow, ◌⊠◌, ◌⊟◌, ◌&◌, done, exact, bounded, no_overflow}
use Rattle.ember_trace.specs.LineSizes.{most_moved}
use Rattle.ember_trace.proofs.edge_lines.line_side.Goals as goal

abbrev two : Code
two = stored w128 (kept 0 ⊟ kept 1)

pub product-requires-clause-a : goal.product-requires-clause-a
product-requires-clause-a c = bounded (c.args.line.now.small_dq & done) most_moved (narrow 0) tt

pub product-requires-2-clause-a : goal.product-requires-2-clause-a
product-requires-2-clause-a c = bounded (c.args.line.now.small_dp & done) most_moved (narrow 0) tt

pub product-requires-3-clause-a : goal.product-requires-3-clause-a
product-requires-3-clause-a c = bounded (c.args.line.now.small_d & done) most_moved (narrow 0) tt

pub overflow_sub-product : goal.overflow_sub-product
overflow_sub-product c = no_overflow (c.product.ensures.small & c.product-2.ensures.small & done) w128 (kept 0 ⊟ kept 1) tt

pub overflow_sub-product-2 : goal.overflow_sub-product-2
overflow_sub-product-2 c =
    no_overflow (c.product.ensures.small & c.product-2.ensures.small & c.product-3.ensures.small & done) w128 (two ⊟ kept 2) tt

pub returns : goal.returns
returns c =
    let x = c.product.ensures in let y = c.product-2.ensures in let z = c.product-3.ensures in
    let l = c.args.line.now in let r = c.requires in
    let sum = exact (x.small & y.small & z.small & done) (stored w128 (two ⊟ kept 2)) tt in
    let products = exact (l.small_dq & r.p & l.small_dp & r.q & l.small_d & r.w & done)
    (narrow 0 ⊠ narrow 1 ⊟ narrow 2 ⊠ narrow 3 ⊟ narrow 4 ⊠ narrow 5) tt in
    c.sign_of.ensures ∙ ap sgn (sum ∙ (λ i. x.value i -ℤ y.value i -ℤ z.value i) ∙ products)
