-- Certified triangles whose corners move
use Rattle.std.specs.Prelude.{◌≡◌, ℕ, pos, ◌<ℤ◌, Option, Some, None, List, map, slice_get}
use Rattle.std.specs.List.{AllByRecursion}
use Rattle.ember_model.specs.declared.plane.Plane.{Plane}
use Rattle.ember_model.specs.declared.point.Axis.{Axis}
use Rattle.ember_model.specs.declared.point.Spot.{Spot}
use Rattle.ember_model.specs.Clear.{AreClear}
use Rattle.ember_model.specs.Meshes.{wind}
use Rattle.mesh_certificate.specs.Certificate.Facing.{spot_of}
use Rattle.mesh_point.specs.declared.space_point.SpacePoint.{SpacePoint}
use Rattle.mesh_certificate.specs.declared.certificate.triangle.Triangle.{Triangle}
use Rattle.mesh_solid.specs.Winding.TriangleFaces.{triangle_faces}
use Rattle.mesh_tolerance.specs.Distances.{IsFar}
use Rattle.mesh_tolerance.specs.Moves.{CornersMoveWithin}
use Rattle.mesh_written.specs.Closed.{Positions}
use Rattle.mesh_tolerance.specs.Triangles.{faces_of_triangles, with_points}

-- the numbers of a triangle's corners
abbrev pub numbers_of : Triangle → Positions ℕ
numbers_of t = record { a = t.first.start; b = t.second.start; c = t.third.start }

-- the corner with this number; what is no corner, of no triangle, is at zero
abbrev pub corner_from : Option SpacePoint → Spot
corner_from None = record { x = pos 0; y = pos 0; z = pos 0; w = pos 1 }
corner_from (Some c) = spot_of c

abbrev pub corner_at : List SpacePoint → ℕ → Spot
corner_at cs number = corner_from (slice_get cs number)

-- the triangles with the corners of the table, and with the points to which these move
abbrev pub exact_triangles : List SpacePoint → List Triangle → List (Positions Spot)
exact_triangles cs ts = map (with_points (corner_at cs)) (map numbers_of ts)

abbrev pub moved_triangles : (ℕ → Spot) → List Triangle → List (Positions Spot)
moved_triangles to ts = map (with_points to) (map numbers_of ts)

-- no corner of a triangle moves by more than size / unit
abbrev pub MoveWithin : ℕ → ℕ → List SpacePoint → (ℕ → Spot) → List Triangle → Type 0
MoveWithin size unit cs to ts = AllByRecursion (CornersMoveWithin size unit (corner_at cs) to) (map numbers_of ts)

-- around each point that is clear of the triangles before and after the move, and farther than size / unit from all of
-- them before, they wind as before
abbrev pub MeshWindsAsBefore : ℕ → ℕ → List Plane → List SpacePoint → (ℕ → Spot) → List Triangle → Type 0
MeshWindsAsBefore size unit ps cs to ts =
    (a : Axis) (p : Spot) → pos 0 <ℤ p.w → AllByRecursion (IsFar size unit p) (exact_triangles cs ts) →
    AreClear (triangle_faces ps cs ts) p → AreClear (faces_of_triangles (moved_triangles to ts)) p →
    wind a (faces_of_triangles (moved_triangles to ts)) p ≡ wind a (triangle_faces ps cs ts) p

-- so they do for each such move
abbrev pub MovesKeepWinding : List Plane → List SpacePoint → List Triangle → Type 0
MovesKeepWinding ps cs ts =
    (size unit : ℕ) (to : ℕ → Spot) → MoveWithin size unit cs to ts → MeshWindsAsBefore size unit ps cs to ts
