-- Triangles of floats
use Rattle.std.specs.Prelude.{◌≡◌, ℕ, nat_eq, nat_lt, Bool, not, ◌&&◌, ◌||◌, List, [], ◌∷◌, map, filter, slice_index_or}
use Rattle.std.specs.Prelude.{if◌then◌else◌, true, length}
use Rattle.std.specs.List.{list_all}
use Rattle.ember_model.specs.declared.plane.Plane.{Plane}
use Rattle.mesh_grid.specs.declared.snap.steps.GridStep.{GridStep}
use Rattle.mesh_grid.specs.declared.snap.offsets.Offset.{Offset}
use Rattle.mesh_write.specs.declared.stl.triangle.FloatPoint.{FloatPoint}
use Rattle.mesh_write.specs.declared.stl.triangle.FloatTriangle.{FloatTriangle}
use Rattle.mesh_point.specs.declared.space_point.SpacePoint.{SpacePoint}
use Rattle.mesh_certificate.specs.declared.certificate.triangle.Triangle.{Triangle}
use Rattle.mesh_written.specs.Floats.{AreFloatPoints}
use Rattle.mesh_written.specs.Normals.{normal_at}

-- the corners of the triangle are indices below this number
abbrev pub has_corners : ℕ → Triangle → Bool
has_corners count t =
    nat_lt t.first.start count && (nat_lt t.second.start count && nat_lt t.third.start count)

-- the corners of each of these triangles are in the table
abbrev pub HaveCorners : List SpacePoint → List Triangle → Type 0
HaveCorners corners ts = list_all (has_corners (length corners)) ts ≡ true

-- the point with this number; what is no point, of no triangle, is at zero
abbrev pub point_at : List FloatPoint → ℕ → FloatPoint
point_at ps number = slice_index_or ps number (record { x = 0; y = 0; z = 0 })

-- the triangle with points for its corners
abbrev pub triangle_at : List Plane → List FloatPoint → Triangle → FloatTriangle
triangle_at planes ps t = record {
  normal = normal_at planes t.first.plane;
  a = point_at ps t.first.start;
  b = point_at ps t.second.start;
  c = point_at ps t.third.start;
}

abbrev pub same_point : FloatPoint → FloatPoint → Bool
same_point p q = nat_eq p.x q.x && (nat_eq p.y q.y && nat_eq p.z q.z)

-- two of its corners are equal
abbrev pub vanishes : FloatTriangle → Bool
vanishes t = same_point t.a t.b || (same_point t.b t.c || same_point t.c t.a)

abbrev pub kept : List FloatTriangle → List FloatTriangle
kept ts = filter (λ t. not (vanishes t)) ts

-- of these numbers, one for each triangle, those of the triangles that are kept
abbrev pub kept_numbers : List FloatTriangle → List ℕ → List ℕ
kept_numbers [] numbers = []
kept_numbers (t ∷ ts) [] = []
kept_numbers (t ∷ ts) (n ∷ ns) = if vanishes t then kept_numbers ts ns else n ∷ kept_numbers ts ns

-- the triangles with their corners rounded, in order, without those with two corners that became equal
pub record AreWritten (s : GridStep) (o : Offset) (planes : List Plane) (cs : List SpacePoint) (ts : List Triangle)
    (ws : List FloatTriangle) : Type 0 where
  pub points : List FloatPoint
  pub rounded : AreFloatPoints s o cs points
  pub written : ws ≡ kept (map (triangle_at planes points) ts)
