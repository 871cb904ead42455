use Rattle.std.proofs.Common.{◌∙◌, ap, refl, lit<}
use Rattle.ember_algebra.specs.Sign.{sgn}
use Rattle.ember_algebra.proofs.Exact.{wide, kept, ◌⊠◌, ◌&◌, done, exact}
use Rattle.ember_algebra.proofs.Size.{small_mul}
use Rattle.ember_width.proofs.Sums.{within, sum_within, sum_fits}
use Rattle.ember_width.proofs.CubeValues.{remainder_small}
use Rattle.ember_width.proofs.sides.exact_side.Goals as goal

pub plus-requires : goal.plus-requires
plus-requires c =
    let p = c.requires.plane in let m = c.args.m.now.valid in
    let base = c.product-base.ensures ∙ exact (c.requires.value & m.w & done) (wide 0 ⊠ kept 1) tt in
    let x = c.product-x.ensures ∙ exact (p.a & remainder_small m.x m.w & done) (wide 0 ⊠ kept 1) tt in
    sum_fits c.product-base.result c.product-x.result
    (within c.product-base.result base (small_mul c.requires.value m.w))
    (within c.product-x.result x (small_mul p.a (remainder_small m.x m.w))) (lit< tt)

pub plus-requires-2 : goal.plus-requires-2
plus-requires-2 c =
    let p = c.requires.plane in let m = c.args.m.now.valid in
    let base = c.product-base.ensures ∙ exact (c.requires.value & m.w & done) (wide 0 ⊠ kept 1) tt in
    let x = c.product-x.ensures ∙ exact (p.a & remainder_small m.x m.w & done) (wide 0 ⊠ kept 1) tt in
    let y = c.product-y.ensures ∙ exact (p.b & remainder_small m.y m.w & done) (wide 0 ⊠ kept 1) tt in
    let one = sum_within c.product-base.result c.product-x.result c.plus.result c.plus.ensures
    (within c.product-base.result base (small_mul c.requires.value m.w))
    (within c.product-x.result x (small_mul p.a (remainder_small m.x m.w))) in
    sum_fits c.plus.result c.product-y.result one (within c.product-y.result y (small_mul p.b (remainder_small m.y m.w))) (lit< tt)

pub plus-requires-3 : goal.plus-requires-3
plus-requires-3 c =
    let p = c.requires.plane in let m = c.args.m.now.valid in
    let base = c.product-base.ensures ∙ exact (c.requires.value & m.w & done) (wide 0 ⊠ kept 1) tt in
    let x = c.product-x.ensures ∙ exact (p.a & remainder_small m.x m.w & done) (wide 0 ⊠ kept 1) tt in
    let y = c.product-y.ensures ∙ exact (p.b & remainder_small m.y m.w & done) (wide 0 ⊠ kept 1) tt in
    let z = c.product-z.ensures ∙ exact (p.c & remainder_small m.z m.w & done) (wide 0 ⊠ kept 1) tt in
    let one = sum_within c.product-base.result c.product-x.result c.plus.result c.plus.ensures
    (within c.product-base.result base (small_mul c.requires.value m.w))
    (within c.product-x.result x (small_mul p.a (remainder_small m.x m.w))) in
    let two = sum_within c.plus.result c.product-y.result c.plus-2.result c.plus-2.ensures one
    (within c.product-y.result y (small_mul p.b (remainder_small m.y m.w))) in
    sum_fits c.plus-2.result c.product-z.result two (within c.product-z.result z (small_mul p.c (remainder_small m.z m.w))) (lit< tt)

pub returns : goal.returns
returns c =
    let p = c.requires.plane in let m = c.args.m.now.valid in
    let base = c.product-base.ensures ∙ exact (c.requires.value & m.w & done) (wide 0 ⊠ kept 1) tt in
    let x = c.product-x.ensures ∙ exact (p.a & remainder_small m.x m.w & done) (wide 0 ⊠ kept 1) tt in
    let y = c.product-y.ensures ∙ exact (p.b & remainder_small m.y m.w & done) (wide 0 ⊠ kept 1) tt in
    let z = c.product-z.ensures ∙ exact (p.c & remainder_small m.z m.w & done) (wide 0 ⊠ kept 1) tt in
    c.sign.ensures ∙ ap sgn (c.plus-3.ensures ∙ rw (c.plus-2.ensures, c.plus.ensures, base, x, y, z) refl)
