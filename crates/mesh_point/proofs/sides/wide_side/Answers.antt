use Rattle.std.proofs.Common.{◌≡◌, ◌*ℤ◌, ◌∙◌, ap, refl, lit≤, lit<}
use mir.Syntax.{w128}
use Rattle.ember_algebra.specs.Sign.{sgn}
use Rattle.ember_algebra.specs.Size.{Small}
use Rattle.ember_algebra.proofs.Exact.{wide, kept, ◌⊠◌, ◌&◌, done, exact}
use Rattle.ember_algebra.proofs.Size.{small_mul}
use Rattle.ember_wide.specs.Whole.{value_of}
use Rattle.ember_width.proofs.CubeValues.{remainder_small}
use Rattle.ember_width.proofs.Sums.{within, sum_within, sum_fits}
use Rattle.mesh_point.proofs.SideValues.{added_up}
use Rattle.mesh_point.proofs.sides.wide_side.Goals as goal

pub plus-requires : goal.plus-requires
plus-requires c =
    let h = c.requires.plane in let v = c.args.p.now.valid in
    let e = c.product-base.ensures ∙ exact (c.requires.value & v.w & done) (wide 0 ⊠ kept 1) tt in
    let x = c.product-x.ensures ∙ exact (h.a & remainder_small v.x v.w & done) (wide 0 ⊠ kept 1) tt in
    sum_fits c.product-base.result c.product-x.result (within c.product-base.result e (small_mul c.requires.value v.w))
    (within c.product-x.result x (small_mul h.a (remainder_small v.x v.w))) (lit< tt)

pub plus-requires-2 : goal.plus-requires-2
plus-requires-2 c =
    let h = c.requires.plane in let v = c.args.p.now.valid in
    let e = c.product-base.ensures ∙ exact (c.requires.value & v.w & done) (wide 0 ⊠ kept 1) tt in
    let x = c.product-x.ensures ∙ exact (h.a & remainder_small v.x v.w & done) (wide 0 ⊠ kept 1) tt in
    let y = c.product-y.ensures ∙ exact (h.b & remainder_small v.y v.w & done) (wide 0 ⊠ kept 1) tt in
    let one = sum_within c.product-base.result c.product-x.result c.plus.result c.plus.ensures
    (within c.product-base.result e (small_mul c.requires.value v.w)) (within c.product-x.result x (small_mul h.a (remainder_small v.x v.w))) in
    sum_fits c.plus.result c.product-y.result one (within c.product-y.result y (small_mul h.b (remainder_small v.y v.w))) (lit< tt)

pub plus-requires-3 : goal.plus-requires-3
plus-requires-3 c =
    let h = c.requires.plane in let v = c.args.p.now.valid in
    let e = c.product-base.ensures ∙ exact (c.requires.value & v.w & done) (wide 0 ⊠ kept 1) tt in
    let x = c.product-x.ensures ∙ exact (h.a & remainder_small v.x v.w & done) (wide 0 ⊠ kept 1) tt in
    let y = c.product-y.ensures ∙ exact (h.b & remainder_small v.y v.w & done) (wide 0 ⊠ kept 1) tt in
    let z = c.product-z.ensures ∙ exact (h.c & remainder_small v.z v.w & done) (wide 0 ⊠ kept 1) tt in
    let one = sum_within c.product-base.result c.product-x.result c.plus.result c.plus.ensures
    (within c.product-base.result e (small_mul c.requires.value v.w)) (within c.product-x.result x (small_mul h.a (remainder_small v.x v.w))) in
    let two = sum_within c.plus.result c.product-y.result c.plus-2.result c.plus-2.ensures one (within c.product-y.result y (small_mul h.b (remainder_small v.y v.w))) in
    sum_fits c.plus-2.result c.product-z.result two (within c.product-z.result z (small_mul h.c (remainder_small v.z v.w))) (lit< tt)

pub returns : goal.returns
returns c =
    let p = c.args.p.now in let n = c.args.plane.now in
    let h = c.requires.plane in let v = c.args.p.now.valid in
    let e = c.product-base.ensures ∙ exact (c.requires.value & v.w & done) (wide 0 ⊠ kept 1) tt in
    let x = c.product-x.ensures ∙ exact (h.a & remainder_small v.x v.w & done) (wide 0 ⊠ kept 1) tt in
    let y = c.product-y.ensures ∙ exact (h.b & remainder_small v.y v.w & done) (wide 0 ⊠ kept 1) tt in
    let z = c.product-z.ensures ∙ exact (h.c & remainder_small v.z v.w & done) (wide 0 ⊠ kept 1) tt in
    c.sign.ensures ∙ ap sgn (c.plus-3.ensures ∙ rw (c.plus-2.ensures, c.plus.ensures, e, x, y, z) refl ∙ added_up (c.args.value *ℤ p.w) (n.a *ℤ p.x) (n.b *ℤ p.y) (n.c *ℤ p.z))
