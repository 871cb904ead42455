-- A face's crossing, by the sides of its plane and the point where the ray meets it; and what a segment adds to it.
use Rattle.std.proofs.Common.{◌≡◌, ◌≢◌, ◌⊎◌, inl, inr, refl, sym, ◌∙◌, arith, Bool, true, false, cond, Option, Some, List, slice_get, ℕ, ℤ, pos, ◌*ℤ◌, ◌<ℤ◌}
use lib.IntN.{*ℤ-zero, zero-*ℤ}
use Rattle.ember_algebra.specs.Vector.{Vector}
use Rattle.ember_algebra.specs.Sign.{sign, is_negative, is_zero}
use Rattle.ember_algebra.proofs.Laws.{linear}
use Rattle.ember_model.specs.declared.plane.Plane.{Plane}
use Rattle.ember_model.specs.declared.point.Spot.{Spot}
use Rattle.ember_model.specs.declared.point.Axis.{Axis}
use Rattle.ember_model.specs.declared.face.Face.{Face}
use Rattle.ember_model.specs.ClearTest.{all_negative}
use Rattle.ember_model.specs.Faces.{hit, crossing}
use Rattle.ember_model.specs.Planes.{value_at, along}
use Rattle.ember_model.proofs.Hits.{crossing_off, crossing_on}
use Rattle.ember_model.proofs.SignTests.{zero_out, nonzero_out, zero_scaled}
use Rattle.mesh_certificate.specs.declared.certificate.segment.Segment.{Segment}
use Rattle.mesh_point.specs.declared.space_point.SpacePoint.{SpacePoint}
use Rattle.mesh_certificate.specs.Certificate.Facing.{spot_of}
use Rattle.mesh_certificate.specs.declared.key.lines.LineKey.{LineKey}
use Rattle.ember_meaning.specs.Regions.Meaning.{one_if}
use Rattle.mesh_solid.proofs.LineForm.{below_on}
use Rattle.mesh_solid.proofs.SamePlane.{front_sign, level_with, ray_passing}

-- ---- faces
one_picked : (b : Bool) (z : ℤ) → cond b z (pos 0) ≡ z *ℤ one_if b
one_picked true z = let e = solve_one z in sym e
  where
    solve_one : (z : ℤ) → z *ℤ pos 1 ≡ z
    solve_one z = omega (arith, linear)
one_picked false z = sym (*ℤ-zero z)

-- a ray crosses a face as it comes through its plane, if it meets the plane inside the face
pub crossing_is : (f : Face) (a : Axis) (p : Spot) → pos 0 <ℤ p.w →
    crossing f a p ≡ front_sign f.support a p *ℤ one_if (all_negative f.edges (hit f.support a p))
crossing_is f a p w = by (is_negative (value_at f.support p *ℤ along f.support a)) refl
  where
    by : (b : Bool) → is_negative (value_at f.support p *ℤ along f.support a) ≡ b →
        crossing f a p ≡ front_sign f.support a p *ℤ one_if (all_negative f.edges (hit f.support a p))
    by true e =
        crossing_on f a p (all_negative f.edges (hit f.support a p)) w e refl
        ∙ one_picked (all_negative f.edges (hit f.support a p)) (sign (along f.support a))
        ∙ sym (λ i. cond (e i) (sign (along f.support a)) (pos 0) *ℤ one_if
        (all_negative f.edges (hit f.support a p)))
    by false e =
        crossing_off f a p e ∙ sym ((λ i. cond (e i) (sign (along f.support a)) (pos 0) *ℤ one_if
        (all_negative f.edges (hit f.support a p))) ∙ zero-*ℤ (one_if (all_negative f.edges (hit f.support a p))))

-- a plane along the axis is never come through
pub front_or_along : (n : Plane) (a : Axis) (p : Spot) → (front_sign n a p ≡ pos 0) ⊎ (along n a ≢ pos 0)
front_or_along n a p = by (is_zero (along n a)) refl
  where
    by : (b : Bool) → is_zero (along n a) ≡ b → (front_sign n a p ≡ pos 0) ⊎ (along n a ≢ pos 0)
    by true e =
        let z = zero_out (along n a) e in
        inl (λ i. cond (is_negative (zero_scaled (value_at n p) (along n a) z i)) (sign (along n a)) (pos 0))
    by false e = inr (nonzero_out (along n a) e)

-- ---- segments, by tables of planes and corners
-- how the ray in the plane passes the way between two corners, with the sign of the ray from p
abbrev pub passing_found : Axis → Spot → Vector → Option Plane → Option SpacePoint → Option SpacePoint → ℤ
passing_found a p q (Some n) (Some u) (Some v) = front_sign n a p *ℤ ray_passing n a p q (spot_of u) (spot_of v)
passing_found a p q n u v = pos 0

abbrev pub passing_in : List Plane → List SpacePoint → Axis → Spot → Vector → ℕ → ℕ → ℕ → ℤ
passing_in ps cs a p q plane u v = passing_found a p q (slice_get ps plane) (slice_get cs u) (slice_get cs v)

-- that of a segment
abbrev pub passing_of : List Plane → List SpacePoint → Axis → Spot → Vector → Segment → ℤ
passing_of ps cs a p q s = passing_in ps cs a p q s.plane s.start s.end

-- ---- the same, by corners on lines of the plane
abbrev pub below_found : Axis → Spot → Vector → Option Plane → Option LineKey → Option SpacePoint → ℤ
below_found a p q (Some n) (Some k) (Some u) = front_sign n a p *ℤ below_on n (level_with n q) (hit n a p) k (spot_of u)
below_found a p q n k u = pos 0

abbrev pub below_in : List Plane → List LineKey → List SpacePoint → Axis → Spot → Vector → ℕ → ℕ → ℕ → ℤ
below_in ps ls cs a p q plane line u = below_found a p q (slice_get ps plane) (slice_get ls line) (slice_get cs u)
