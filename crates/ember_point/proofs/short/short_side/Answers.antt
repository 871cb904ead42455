use Rattle.std.proofs.Common.{◌∙◌, ap, ◌+ℤ◌, ◌-ℤ◌}
use mir.Syntax.{w128}
use Rattle.ember_algebra.specs.Sign.{sgn}
use Rattle.ember_algebra.proofs.Exact.{Code, stored, kept, narrow, ◌⊠◌, ◌⊞◌, ◌⊟◌, ◌&◌, done, exact, no_overflow}
use Rattle.ember_point.proofs.short.short_side.Goals as goal

abbrev xy : Code
xy = stored w128 (kept 0 ⊞ kept 1)

abbrev front : Code
front = stored w128 (xy ⊞ kept 2)

pub overflow_add-front : goal.overflow_add-front
overflow_add-front c = no_overflow (c.short_product.ensures.small & c.short_product-2.ensures.small & done) w128 (kept 0 ⊞ kept 1) tt

pub overflow_add-front-2 : goal.overflow_add-front-2
overflow_add-front-2 c =
    no_overflow (c.short_product.ensures.small & c.short_product-2.ensures.small & c.short_product-3.ensures.small & done) w128 (xy ⊞ kept 2) tt

pub overflow_sub-front : goal.overflow_sub-front
overflow_sub-front c =
    no_overflow (c.short_product.ensures.small & c.short_product-2.ensures.small & c.short_product-3.ensures.small &
    c.short_product-4.ensures.small & done) w128 (front ⊟ kept 3) tt

pub returns : goal.returns
returns c =
    let x = c.short_product.ensures in let y = c.short_product-2.ensures in let z = c.short_product-3.ensures in let w = c.short_product-4.ensures in
    let p = c.requires.plane in let m = c.args.m.now.valid in
    let sum = exact (x.small & y.small & z.small & w.small & done) (stored w128 (front ⊟ kept 3)) tt in
    let products = exact (p.a & m.x & p.b & m.y & p.c & m.z & p.d & m.w & done)
    (narrow 0 ⊠ kept 1 ⊞ narrow 2 ⊠ kept 3 ⊞ narrow 4 ⊠ kept 5 ⊟ narrow 6 ⊠ kept 7) tt in
    c.sign_of.ensures ∙ ap sgn (sum ∙ (λ i. x.value i +ℤ y.value i +ℤ z.value i -ℤ w.value i) ∙ products)
