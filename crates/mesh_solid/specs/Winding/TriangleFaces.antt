-- The faces of a mesh's triangles, and lists of faces that wind alike
use Rattle.std.specs.Prelude.{◌≡◌, pos, ◌*ℤ◌, ◌<ℤ◌, Option, Some, List, [], ◌∷◌, slice_get}
use Rattle.std.specs.List.{flat_map}
use Rattle.ember_algebra.specs.Vector.{dot, cross}
use Rattle.ember_algebra.specs.Large.{Eventually}
use Rattle.ember_model.specs.declared.plane.Plane.{Plane}
use Rattle.ember_model.specs.declared.point.Spot.{Spot}
use Rattle.ember_model.specs.declared.point.Axis.{Axis}
use Rattle.ember_model.specs.declared.face.Face.{Face}
use Rattle.ember_model.specs.Clear.{AreClear}
use Rattle.ember_model.specs.Edges.{normal}
use Rattle.ember_model.specs.Meshes.{wind}
use Rattle.ember_model.specs.Points.{offset_by, displacement}
use Rattle.mesh_certificate.specs.Key.LineKeys.{numerators}
use Rattle.mesh_point.specs.declared.space_point.SpacePoint.{SpacePoint}
use Rattle.mesh_certificate.specs.declared.certificate.triangle.Triangle.{Triangle}
use Rattle.mesh_certificate.specs.Certificate.Facing.{spot_of}

-- ---- the face of a triangle
-- the plane through u and v at right angles to p; seen from the front of p, it is negative to the left of the way
-- from u to v
abbrev pub side_plane : Plane → Spot → Spot → Plane
side_plane p u v =
    let k = cross (displacement u v) (normal p) in
    record { a = u.w *ℤ k.x; b = u.w *ℤ k.y; c = u.w *ℤ k.z; d = dot k (numerators u) }

-- the triangle u, v, w in the plane p, which it goes round counter-clockwise as seen from the front
abbrev pub face_of_points : Plane → Spot → Spot → Spot → Face
face_of_points p u v w = record { support = p; edges = side_plane p u v ∷ side_plane p v w ∷ side_plane p w u ∷ [] }

-- one face, if there are such a plane and such corners
abbrev pub face_if_found : Option Plane → Option SpacePoint → Option SpacePoint → Option SpacePoint → List Face
face_if_found (Some p) (Some u) (Some v) (Some w) = face_of_points p (spot_of u) (spot_of v) (spot_of w) ∷ []
face_if_found p u v w = []

-- the face of a triangle by tables of planes and corners
abbrev pub faces_of_triangle : List Plane → List SpacePoint → Triangle → List Face
faces_of_triangle ps cs t =
    let corner = slice_get cs in
    face_if_found (slice_get ps t.first.plane) (corner t.first.start) (corner t.second.start) (corner t.third.start)

-- the faces of triangles, in order; a triangle whose plane or corner isn't in the tables has none
abbrev pub triangle_faces : List Plane → List SpacePoint → List Triangle → List Face
triangle_faces ps cs ts = flat_map (faces_of_triangle ps cs) ts

-- ---- winding alike
-- at each point that is clear of both, along each axis, both lists of faces have one winding number
abbrev pub WindAlike : List Face → List Face → Type 0
WindAlike fs gs = (a : Axis) (p : Spot) → pos 0 <ℤ p.w → AreClear fs p → AreClear gs p → wind a fs p ≡ wind a gs p

-- near each point, clear or not: at the point shifted along all axes by little enough
abbrev pub WindAlikeNearby : List Face → List Face → Type 0
WindAlikeNearby fs gs =
    (a : Axis) (p : Spot) → pos 0 <ℤ p.w →
    Eventually (λ k. wind a fs (offset_by p (pos k)) ≡ wind a gs (offset_by p (pos k)))
