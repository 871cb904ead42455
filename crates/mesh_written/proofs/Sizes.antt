-- Sizes of wide numbers, and of what they are made of.
use Rattle.std.proofs.Common.{◌≡◌, ℕ, ◌*◌, ◌^◌, ◌<◌, ◌≤◌, ℤ, pos, ◌+ℤ◌, ◌*ℤ◌, unsigned_abs, to_z, of_z, to_z-of_z, mul-le-mul, refl, ap, ◌∙◌, arith}
use Rattle.std.proofs.Math.IntN.{*ℤ-one}
use mir.Syntax.{w128}
use Rattle.ember_algebra.proofs.Exact.{kept, ◌&◌, done, exact}
use Rattle.ember_wide.specs.declared.whole.Wide.{Wide}
use Rattle.ember_wide.specs.Whole.{size_of, value_of}
use Rattle.mesh_number.proofs.Sizes.{product_size, fits_126}
use Rattle.ember_wide.proofs.Values.{size_of_value}
use Rattle.mesh_point.specs.declared.space_point.SpacePoint.{SpacePoint}

-- the size of a product of two numbers with these bounds
pub size_of_product : (n : Wide) (x y : ℤ) (a b : ℕ) → value_of n ≡ x *ℤ y → unsigned_abs x ≤ a → unsigned_abs y ≤ b → size_of n.size ≤ a * b
size_of_product n x y a b e l k =
    let same : unsigned_abs (value_of n) ≡ unsigned_abs (x *ℤ y) = ap unsigned_abs e in
    omega (arith, size_of_value n, same, product_size x y a b l k)

-- a step's code_gives_numerator, as code reads it
pub read_step : (z : ℤ) (n : ℕ) → z ≡ pos n → n < 2 ^ 40 → to_z w128 (of_z w128 z) ≡ pos n
read_step z n e l = rw e (to_z-of_z (fits_126 (pos n) (omega (arith, l))))

-- the steps of the code give the code_gives_numerator
pub code_gives_numerator : (p q f n : Wide) (x w o s z : ℤ) → value_of p ≡ x *ℤ pos 1 → value_of q ≡ o *ℤ w →
    value_of f ≡ value_of p +ℤ value_of q → z ≡ s → value_of n ≡ value_of f *ℤ z → value_of n ≡ (x +ℤ o *ℤ w) *ℤ s
unfolding lib.IntN.one
code_gives_numerator p q f n x w o s z e g h k i =
    let once : value_of p ≡ x = e ∙ *ℤ-one x in
    i ∙ rw (k, h, once, g) refl

-- a corner's weight, as code reads it
pub read_weight : (c : SpacePoint) → to_z w128 (of_z w128 c.w) ≡ c.w
read_weight c = exact (c.valid.w & done) (kept 0) tt

-- the bounds of a denominator
pub between : (d a : ℕ) → 0 < d → d < 2 ^ 40 → 0 < a → a ≤ 37778931862957161709567 → (0 < d * a) × (d * a < 2 ^ 115)
between d a p l q k =
    let one_d : 1 ≤ d = omega arith in
    let one_a : 1 ≤ a = omega arith in
    let most : d ≤ 1099511627775 = omega (arith, l) in
    let low : 1 * 1 ≤ d * a = mul-le-mul one_d one_a in
    let high : d * a ≤ 1099511627775 * 37778931862957161709567 = mul-le-mul most k in
    (omega (arith, low), omega (arith, high))
