-- The search for faces of one plane that overlap
use Rattle.std.specs.Prelude.{◌≡◌, ℕ, ◌/◌, ◌%◌, nat_eq, Bool, false, not, ◌&&◌, ◌||◌, Option, Some, List, [], ◌∷◌}
use Rattle.std.specs.Prelude.{slice_get}
use Rattle.std.specs.List.{AllZip, list_all, list_any}
use Rattle.ember_algebra.specs.Sign.{is_negative}
use Rattle.ember_model.specs.declared.plane.Plane.{Plane}
use Rattle.ember_model.specs.FaceFiles.{WrittenFace}
use Rattle.ember_model.specs.Planes.{value_at}
use Rattle.ember_point.specs.Points.{spot_of}
use Rattle.ember_reread.specs.declared.cornered_face.CorneredEdge.{CorneredEdge}
use Rattle.mesh_certificate.specs.Key.PlaneKeys.{IsPlaneKey}
use Rattle.mesh_solid.specs.Refusal.Overlaps.{are_apart}
use Rattle.mesh_solid.specs.Tables.Numberings.{HasEntry, AreDistinct}

-- ---- edges as they are read
-- all edges start on the plane or in front of it
abbrev pub start_beyond : Plane → List CorneredEdge → Bool
start_beyond p es = list_all (λ (e : CorneredEdge). not (is_negative (value_at p (spot_of e.start)))) es

-- all others start so for the plane of some edge
abbrev pub has_outer_edge : List CorneredEdge → List CorneredEdge → Bool
has_outer_edge es others = list_any (λ (e : CorneredEdge). start_beyond e.plane others) es

-- ---- faces as numbers: that of the plane times 2^32, and the index of the face
abbrev pub plane_in : ℕ → ℕ
plane_in number = number / 4294967296

abbrev pub index_in : ℕ → ℕ
index_in number = number % 4294967296

-- ---- pairs
-- there are two faces, and they aren't apart
abbrev pub not_apart : Option WrittenFace → Option WrittenFace → Bool
not_apart (Some v) (Some w) = not (are_apart v w)
not_apart v w = false

-- the numbers are of two faces that aren't apart
abbrev pub are_overlaid : List WrittenFace → ℕ → ℕ → Bool
are_overlaid ws m n =
    not (nat_eq (index_in m) (index_in n)) && not_apart (slice_get ws (index_in m)) (slice_get ws (index_in n))

-- they are also of one plane
abbrev pub overlap : List WrittenFace → ℕ → ℕ → Bool
overlap ws m n = nat_eq (plane_in m) (plane_in n) && are_overlaid ws m n

-- some number and one behind it pass the test
abbrev pub any_pair : (ℕ → ℕ → Bool) → List ℕ → Bool
any_pair p [] = false
any_pair p (m ∷ ns) = list_any (p m) ns || any_pair p ns

-- ---- numbers of faces
-- the number is that of a plane of the list, which is the face's
abbrev pub HasPlane : List Plane → WrittenFace → ℕ → Type 0
HasPlane planes w n = HasEntry planes (plane_in n) (IsPlaneKey w.support)

-- the numbers are of the faces in their order; no plane has two numbers
pub record AreNumbered (ws : List WrittenFace) (ns : List ℕ) : Type 0 where
  pub planes : List Plane
  pub distinct : AreDistinct (λ (p : Plane). p) planes
  pub each : AllZip (HasPlane planes) ws ns
  pub indices : (i n : ℕ) → slice_get ns i ≡ Some n → index_in n ≡ i
