use Rattle.std.proofs.Common.{◌≡◌, ◌+ℤ◌, ◌*ℤ◌, ◌∙◌, refl, arith, lit≤}
use Rattle.ember_algebra.proofs.Exact.{kept, wide, ◌⊠◌, ◌&◌, done, exact}
use Rattle.ember_algebra.proofs.Size.{small_mul, small_add, small_within}
use Rattle.ember_wide.specs.Whole.{value_of}
use Rattle.ember_wide.proofs.Values.{size_within}
use Rattle.ember_width.proofs.Sums.{within}
use Rattle.ember_width.proofs.meeting.combination.Goals as goal

pub plus-requires : goal.plus-requires
plus-requires c =
    let r = c.requires in
    let e = c.product.ensures ∙ exact (r.small_a & r.small_x & done) (wide 0 ⊠ kept 1) tt in
    let f = c.product-2.ensures ∙ exact (r.small_b & r.small_y & done) (wide 0 ⊠ kept 1) tt in
    omega (
      arith,
      size_within c.product.result (within c.product.result e (small_mul r.small_a r.small_x)),
      size_within c.product-2.result (within c.product-2.result f (small_mul r.small_b r.small_y)),
    )

pub plus-requires-2 : goal.plus-requires-2
plus-requires-2 c =
    let r = c.requires in
    let e = c.product.ensures ∙ exact (r.small_a & r.small_x & done) (wide 0 ⊠ kept 1) tt in
    let f = c.product-2.ensures ∙ exact (r.small_b & r.small_y & done) (wide 0 ⊠ kept 1) tt in
    let h = c.product-3.ensures ∙ exact (r.small_c & r.small_z & done) (wide 0 ⊠ kept 1) tt in
    let s : value_of c.plus.result ≡ c.args.a *ℤ c.args.x +ℤ c.args.b *ℤ c.args.y = c.plus.ensures ∙ rw (e, f) refl in
    omega (
      arith,
      size_within c.plus.result (within c.plus.result s (small_add (small_mul r.small_a r.small_x) (small_mul r.small_b r.small_y))),
      size_within c.product-3.result (within c.product-3.result h (small_mul r.small_c r.small_z)),
    )

pub returns : goal.returns
returns c =
    let r = c.requires in
    let e = c.product.ensures ∙ exact (r.small_a & r.small_x & done) (wide 0 ⊠ kept 1) tt in
    let f = c.product-2.ensures ∙ exact (r.small_b & r.small_y & done) (wide 0 ⊠ kept 1) tt in
    let h = c.product-3.ensures ∙ exact (r.small_c & r.small_z & done) (wide 0 ⊠ kept 1) tt in
    let s : value_of c.plus-2.result ≡ c.args.a *ℤ c.args.x +ℤ c.args.b *ℤ c.args.y +ℤ c.args.c *ℤ c.args.z =
    c.plus-2.ensures ∙ rw (c.plus.ensures, e, f, h) refl in
    record {
      value = s;
      small = within c.plus-2.result s (small_within (lit≤ tt)
          (small_add (small_add (small_mul r.small_a r.small_x) (small_mul r.small_b r.small_y)) (small_mul r.small_c r.small_z)));
    }
