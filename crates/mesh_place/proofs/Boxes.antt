-- Boxes between two corners
use Rattle.std.proofs.Common.{◌≡◌, ◌≤◌, ℕ, ◌+◌, ◌-◌, ◌*◌, ◌^◌, refl, sym, ap, subst, ◌∙◌, arith, ℤ, pos, ◌+ℤ◌, ◌-ℤ◌, ◌*ℤ◌}
use Rattle.std.proofs.lemmas.Nat.{pow-add}
use Rattle.ember_algebra.proofs.Ring.{◌⊕◌, ◌⊖◌, ◌≈◌, solve, cancels}
use Rattle.mesh_number.specs.Number.Fractions.{Fraction}
use Rattle.mesh_read.specs.Surface.Surfaces.{Point}
use Rattle.mesh_place.specs.declared.exact.points.ExactPoint.{ExactPoint}
use Rattle.mesh_place.specs.declared.maps.axes.Axis.TheVariants.{X, Y, Z}
use Rattle.mesh_place.specs.Integers.{integer_of}
use Rattle.mesh_place.specs.Decimals.{IsOver}
use Rattle.mesh_place.specs.Points.{IsExactPoint, IsShifted}
use Rattle.mesh_place.specs.AffineMaps.{Row, Affine, row_along, affine}
use Rattle.mesh_place.specs.Shapes.{IsBoxMap}
use Rattle.mesh_place.proofs.Sums.{product_of_naturals}
use Rattle.mesh_place.proofs.Readings.{shifted_over}

-- a point over a greater power of ten
pub shifted_point : (p : Point) (e f : ExactPoint) (a q k : ℕ) → IsExactPoint p a e → a ≤ q → k ≡ q - a → IsShifted k e f → IsExactPoint p q f
shifted_point p e f a q k h less is s =
    let split : q ≡ a + k = omega arith in
    let power : pos (10 ^ a) *ℤ pos (10 ^ k) ≡ pos (10 ^ q) =
    product_of_naturals (10 ^ a) (10 ^ k) ∙ ap pos (sym (pow-add 10 a k)) ∙ ap (λ (n : ℕ). pos (10 ^ n)) (sym split) in
    record {
      x = shifted_over (integer_of e.x) (integer_of f.x) a q p.x h.x less (s.x ∙ ap (λ (n : ℕ). integer_of e.x *ℤ pos (10 ^ n)) is);
      y = shifted_over (integer_of e.y) (integer_of f.y) a q p.y h.y less (s.y ∙ ap (λ (n : ℕ). integer_of e.y *ℤ pos (10 ^ n)) is);
      z = shifted_over (integer_of e.z) (integer_of f.z) a q p.z h.z less (s.z ∙ ap (λ (n : ℕ). integer_of e.z *ℤ pos (10 ^ n)) is);
      w = s.w ∙ ap (λ (n : ℤ). n *ℤ pos (10 ^ k)) h.w ∙ power;
    }

there_and_back : (s e : ℤ) → e -ℤ s +ℤ s ≡ e
there_and_back = solve 2 (λ s e. e ⊖ s ⊕ s ≈ e) cancels

-- rows that take 0 to one point and 1 to the other
pub rows_make_box : (a b : Point) (s e : ExactPoint) (places : ℕ) (x y z : Row) → IsExactPoint a places s → IsExactPoint b places e →
    x ≡ row_along X (integer_of e.x -ℤ integer_of s.x) (integer_of s.x) →
    y ≡ row_along Y (integer_of e.y -ℤ integer_of s.y) (integer_of s.y) →
    z ≡ row_along Z (integer_of e.z -ℤ integer_of s.z) (integer_of s.z) → IsBoxMap a b (affine x y z (10 ^ places))
rows_make_box a b s e places x y z from to hx hy hz = record {
  x = rw hx refl;
  y = rw hy refl;
  z = rw hz refl;
  from_x = rw hx from.x;
  from_y = rw hy from.y;
  from_z = rw hz from.z;
  to_x = rw (hx, there_and_back (integer_of s.x) (integer_of e.x)) to.x;
  to_y = rw (hy, there_and_back (integer_of s.y) (integer_of e.y)) to.y;
  to_z = rw (hz, there_and_back (integer_of s.z) (integer_of e.z)) to.z;
}
