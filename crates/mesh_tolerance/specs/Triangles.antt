-- Triangles of points of space, and their faces
use Rattle.std.specs.Prelude.{◌*ℤ◌, Bool, not, List, map, filter}
use Rattle.ember_algebra.specs.Vector.{dot}
use Rattle.ember_model.specs.declared.face.Face.{Face}
use Rattle.ember_model.specs.declared.plane.Plane.{Plane}
use Rattle.ember_model.specs.declared.point.Spot.{Spot}
use Rattle.ember_meaning.specs.Closed.Chains.{is_zero_vector}
use Rattle.mesh_certificate.specs.Certificate.Facing.{triangle_normal}
use Rattle.mesh_certificate.specs.Key.LineKeys.{numerators}
use Rattle.mesh_solid.specs.Winding.TriangleFaces.{face_of_points}
use Rattle.mesh_written.specs.Closed.{Positions}

-- the plane through u, v and w, which go round counter-clockwise as seen from its front
abbrev pub plane_of_points : Spot → Spot → Spot → Plane
plane_of_points u v w =
    let k = triangle_normal u v w in
    record { a = u.w *ℤ k.x; b = u.w *ℤ k.y; c = u.w *ℤ k.z; d = dot k (numerators u) }

-- the corners lie on one line
abbrev pub has_no_area : Positions Spot → Bool
has_no_area t = is_zero_vector (triangle_normal t.a t.b t.c)

abbrev pub face_of_corners : Positions Spot → Face
face_of_corners t = face_of_points (plane_of_points t.a t.b t.c) t.a t.b t.c

-- the faces of the triangles that have an area, in order
abbrev pub faces_of_triangles : List (Positions Spot) → List Face
faces_of_triangles ts = map face_of_corners (filter (λ t. not (has_no_area t)) ts)

-- ---- positions that stand for points
-- the triangle with a point for each position
abbrev pub with_points : {P : Type 0} → (P → Spot) → Positions P → Positions Spot
with_points point t = record { a = point t.a; b = point t.b; c = point t.c }
