-- What a plane leaves of a face, by the side on which the face lies.
use Rattle.std.proofs.Common.{◌≡◌, refl, subst, arith, ℕ, List, ℤ, pos, ◌<ℤ◌}
use Rattle.ember_algebra.proofs.Laws.{linear}
use Rattle.ember_model.specs.declared.point.Spot.{Spot}
use Rattle.ember_model.specs.declared.plane.Plane.{Plane}
use Rattle.ember_model.specs.declared.face.Face.{Face}
use Rattle.ember_model.specs.Faces.{Cuts, below}
use Rattle.ember_model.proofs.SignTests.{negative_out, positive_out, zero_out}
use Rattle.ember_poly.specs.declared.reach_and_cut.Reach.{Reach}
use Rattle.ember_poly.specs.declared.reach_and_cut.Reach.TheVariants.{Below, Above, On, Both}
use Rattle.ember_poly.specs.Cuts.{IsReach, IsClip}
use Rattle.ember_poly.specs.Sides.{IsRing}
use Rattle.ember_poly.specs.Passages.{AreSigns}
use Rattle.ember_poly.proofs.ReachBySigns.{reach_is}

-- ---- the side, from what a ring keeps
module _ {M : Type 0} {IsPlane : Plane → Type 0} (spot : M → Spot) where
  -- the signs at a ring's corners give its reach
  pub reach_seen : (f : Face) (n p : Plane) (gs es : List Plane) (ms : List M) (bs : List ℕ) (r : Reach) →
      record { support = n; edges = gs } ≡ f → IsRing IsPlane spot n gs es ms bs → AreSigns spot p ms r → IsReach f p r
  reach_seen f n p gs es ms bs r e v s =
      subst (λ f. IsReach f p r) e (reach_is spot n p gs es ms bs r v.corners v.plane_indices v.represents s)

-- ---- what is left
-- the whole of it
pub clip_whole : (f : Face) (p : Plane) (r : Reach) → IsReach f p r → (r ≡ Both → ⊥) → IsClip f p r f
clip_whole f p Below h n = (h, refl)
clip_whole f p Above h n = (h, refl)
clip_whole f p On h n = (h, refl)
clip_whole f p Both h n = absurd (n refl)

-- the part below
pub clip_cut : (f : Face) (p : Plane) (r : Reach) (g : Face) → IsClip f p r g → Cuts f p → g ≡ below f p
clip_cut f p Below g h c =
    absurd (apart (negative_out _ (h.0.everywhere.holds c.some_above.at c.some_above.inside)) (positive_out _ c.some_above.holds))
  where
    apart : {z : ℤ} → z <ℤ pos 0 → pos 0 <ℤ z → ⊥
    apart p q = omega (arith, linear, p, q)
clip_cut f p Above g h c =
    absurd (apart (negative_out _ c.some_below.holds) (positive_out _ (h.0.everywhere.holds c.some_below.at c.some_below.inside)))
  where
    apart : {z : ℤ} → z <ℤ pos 0 → pos 0 <ℤ z → ⊥
    apart p q = omega (arith, linear, p, q)
clip_cut f p On g h c =
    absurd (apart (zero_out _ (h.0.everywhere.holds c.some_below.at c.some_below.inside)) (negative_out _ c.some_below.holds))
  where
    apart : {z : ℤ} → z ≡ pos 0 → z <ℤ pos 0 → ⊥
    apart p q = omega (arith, linear, p, q)
clip_cut f p Both g h c = h.1
