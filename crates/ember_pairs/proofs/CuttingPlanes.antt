-- The plane that cuts a triangle, with its front turned to the lone corner, and this corner put first.
use Rattle.std.proofs.Common.{◌≡◌, ◌⊎◌, inl, inr, sym, ◌∙◌, arith, ℤ, pos, neg_ℤ}
use Rattle.ember_algebra.proofs.Laws.{linear}
use Rattle.ember_model.specs.declared.plane.Plane.{Plane}
use Rattle.ember_model.specs.declared.point.Spot.{Spot}
use Rattle.ember_model.specs.declared.tri.Tri.{Tri}
use Rattle.ember_model.specs.Planes.{value_at, opposite}
use Rattle.ember_model.specs.Owners.{spot_of_corner}
use Rattle.ember_model.proofs.PlaneValues.{value-opposite}
use Rattle.ember_pairs.specs.declared.chords.LoneCorner.{LoneCorner}
use Rattle.ember_width.specs.Heights.{heights_of}
use Rattle.ember_pairs.specs.Chords.{turned, opposite_heights, IsLone}
use Rattle.ember_pairs.proofs.CornerSums.{turned_triangle, turned_triangle_heights}

-- the heights over the opposite plane are the opposite heights
opposite_plane_heights : (p : Plane) (t : Tri) → heights_of (opposite p) t ≡ opposite_heights (heights_of p t)
opposite_plane_heights p t =
    λ i. record { a = value-opposite p (spot_of_corner t.a) i; b = value-opposite p (spot_of_corner t.b) i; c = value-opposite p (spot_of_corner t.c) i }

-- a plane with the points of n, over which the triangle has the heights of the lone corner
pub record Cutting (n : Plane) (u : Tri) (lone : LoneCorner) : Type 0 where
  pub plane : Plane
  pub heights : lone.over ≡ heights_of plane (turned_triangle lone.name u)
  pub off : (v : Spot) → value_at n v ≡ pos 0 → value_at plane v ≡ pos 0
  pub back : (v : Spot) → value_at plane v ≡ pos 0 → value_at n v ≡ pos 0

-- it is n or its opposite
pub plane_turned_to_lone_corner : (n : Plane) (u : Tri) (lone : LoneCorner) → IsLone (heights_of n u) lone → Cutting n u lone
plane_turned_to_lone_corner n u lone l = by l.over
  where
    zero : {a : ℤ} → a ≡ pos 0 → neg_ℤ a ≡ pos 0
    zero e = omega (arith, linear, e)

    zero_back : {a : ℤ} → neg_ℤ a ≡ pos 0 → a ≡ pos 0
    zero_back e = omega (arith, linear, e)

    by : (lone.over ≡ turned lone.name (heights_of n u)) ⊎ (lone.over ≡ turned lone.name (opposite_heights (heights_of n u))) → Cutting n u lone
    by (inl e) =
        record { plane = n; heights = e ∙ sym (turned_triangle_heights lone.name n u); off = λ v z. z; back = λ v z. z }
    by (inr e) =
        record {
          plane = opposite n;
          heights = e ∙ (λ i. turned lone.name (sym (opposite_plane_heights n u) i))
              ∙ sym (turned_triangle_heights lone.name (opposite n) u);
          off = λ v z. value-opposite n v ∙ zero z;
          back =
              λ v z. zero_back (sym (value-opposite n v) ∙ z);
        }
