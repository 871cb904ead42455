-- Coplanar triangles, and which of them owns a region
use Rattle.std.specs.Prelude.{◌≡◌, ℕ, ◌<◌, Bool, true, not, ◌&&◌, List, Some, slice_get, pos}
use Rattle.ember_algebra.specs.Sign.{is_zero}
use Rattle.ember_model.specs.declared.point.Corner.{Corner}
use Rattle.ember_model.specs.declared.point.Spot.{Spot}
use Rattle.ember_model.specs.declared.tri.Tri.{Tri}
use Rattle.ember_model.specs.declared.face.Face.{Face}
use Rattle.ember_model.specs.Planes.{support_of, value_at}
use Rattle.ember_model.specs.Faces.{is_flat, face_of, Contains}

-- the corner as a point
abbrev pub spot_of_corner : Corner → Spot
spot_of_corner c = record { x = c.x; y = c.y; z = c.z; w = pos 1 }

-- each corner of u lies on the support plane of t
abbrev pub lies_in_plane_of : Tri → Tri → Bool
lies_in_plane_of t u =
    is_zero (value_at (support_of t) (spot_of_corner u.a)) &&
    (is_zero (value_at (support_of t) (spot_of_corner u.b)) &&
    is_zero (value_at (support_of t) (spot_of_corner u.c)))

-- neither is flat, and they lie in one plane
unfoldable pub is_coplanar : Tri → Tri → Bool
is_coplanar t u = not (is_flat t) && (not (is_flat u) && lies_in_plane_of t u)

-- the triangle with the index i owns f: no triangle before it that is coplanar with it contains the inside of f
pub record IsOwner (ts : List Tri) (i : ℕ) (f : Face) : Type 0 where
  pub first : (j : ℕ) (t u : Tri) → j < i → slice_get ts j ≡ Some u → slice_get ts i ≡ Some t →
      is_coplanar u t ≡ true → Contains (face_of u) f → ⊥
