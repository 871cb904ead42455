-- Triangles that conform, and triangles that no other one touches
use Rattle.std.specs.Prelude.{◌≡◌, ◌≢◌, ◌⊎◌, ℕ, ℤ, pos, ◌<ℤ◌, ◌≤ℤ◌, true, false, List, Some, slice_get}
use Rattle.ember_model.specs.declared.point.Corner.{Corner}
use Rattle.ember_model.specs.declared.point.Spot.{Spot}
use Rattle.ember_model.specs.declared.tri.Tri.{Tri}
use Rattle.ember_model.specs.Points.{scaled, plus_s}
use Rattle.ember_model.specs.Owners.{spot_of_corner}
use Rattle.ember_model.specs.Faces.{is_flat, face_of, is_in_closed}

-- ---- common corners and edges
-- c is a corner of the triangle
abbrev pub HasCorner : Tri → Corner → Type 0
HasCorner t c = (c ≡ t.a) ⊎ ((c ≡ t.b) ⊎ (c ≡ t.c))

-- c is a corner of both triangles
pub record IsCommonCorner (t u : Tri) (c : Corner) : Type 0 where
  pub first : HasCorner t c
  pub second : HasCorner u c

-- p lies on the segment between two corners, which may be one: some positive multiple of p is a sum of the corners
-- with weights that aren't negative
pub record IsOnSegment (u v : Corner) (p : Spot) : Type 0 where
  pub factor : ℤ
  pub of_u : ℤ
  pub of_v : ℤ
  pub positive : pos 0 <ℤ factor
  pub u_low : pos 0 ≤ℤ of_u
  pub v_low : pos 0 ≤ℤ of_v
  pub sum : scaled factor p ≡ plus_s (scaled of_u (spot_of_corner u)) (scaled of_v (spot_of_corner v))

-- p is a common corner of the triangles, or lies on a common edge
pub record IsInCommon (t u : Tri) (p : Spot) : Type 0 where
  pub from : Corner
  pub to : Corner
  pub common_from : IsCommonCorner t u from
  pub common_to : IsCommonCorner t u to
  pub on : IsOnSegment from to p

-- ---- triangles that touch
-- the triangles conform: all points that their closed faces share are in a common corner or on a common edge.
-- Otherwise they touch. A flat triangle has no face, so it touches none
pub record Conform (t u : Tri) : Type 0 where
  pub common : is_flat t ≡ false → is_flat u ≡ false → (p : Spot) → is_in_closed (face_of t) p ≡ true →
      is_in_closed (face_of u) p ≡ true → IsInCommon t u p

-- no other triangle of the list touches the one with the index i
pub record IsAlone (ts : List Tri) (i : ℕ) : Type 0 where
  pub conforms : (j : ℕ) (t u : Tri) → j ≢ i → slice_get ts i ≡ Some t → slice_get ts j ≡ Some u → Conform t u
