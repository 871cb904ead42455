-- How many triangles have no area, and how many are turned over
use Rattle.std.specs.Prelude.{◌≡◌, ℕ, suc, Bool, false, List, [], ◌∷◌, map, count_by, Option, Some, None}
use Rattle.std.specs.Prelude.{slice_get, slice_index_or, if◌then◌else◌}
use Rattle.ember_algebra.specs.declared.Sign.{Sign}
use Rattle.ember_algebra.specs.Sign.{sgn, is_nil, is_neg}
use Rattle.ember_model.specs.declared.plane.Plane.{Plane}
use Rattle.ember_model.specs.Planes.{zero_plane}
use Rattle.mesh_write.specs.declared.stl.triangle.FloatPoint.{FloatPoint}
use Rattle.mesh_certificate.specs.declared.certificate.triangle.Triangle.{Triangle}
use Rattle.mesh_write.specs.declared.vertices.point.DecimalPoint.{DecimalPoint}
use Rattle.mesh_write.specs.declared.vertices.point.IndexedTriangle.{IndexedTriangle}
use Rattle.mesh_write.specs.Vertices.Vertices as vertices
use Rattle.mesh_written.specs.Triangles.{point_at, triangle_at, vanishes}
use Rattle.mesh_effect.specs.declared.facing.facings.Facings.{Facings}
use Rattle.mesh_effect.specs.Facing.Areas.{signed_area}
use Rattle.mesh_effect.specs.Facing.Floats.{float_point}
use Rattle.mesh_effect.specs.Facing.Decimals.{decimal_point}

-- ---- counts
abbrev pub has_no_area : Option Sign → Bool
has_no_area None = false
has_no_area (Some s) = is_nil s

abbrev pub is_turned_over : Option Sign → Bool
is_turned_over None = false
is_turned_over (Some s) = is_neg s

abbrev pub one_if : Bool → ℕ
one_if b = if b then 1 else 0

-- how many of these signs of areas are 0, and how many are negative; triangles that vanish have none
pub record AreFacings (signs : List (Option Sign)) (f : Facings) : Type 0 where
  pub without_area : f.without_area ≡ count_by has_no_area signs
  pub turned_over : f.turned_over ≡ count_by is_turned_over signs

-- ---- planes

-- the plane with this number; what is no plane has the normal 0
abbrev pub plane_at : List Plane → ℕ → Plane
plane_at planes number = slice_index_or planes number zero_plane

abbrev pub plane_from : List Plane → Option ℕ → Plane
plane_from planes None = zero_plane
plane_from planes (Some number) = plane_at planes number

-- the plane whose number has this index among the numbers
abbrev pub numbered_plane : List Plane → List ℕ → ℕ → Plane
numbered_plane planes numbers index = plane_from planes (slice_get numbers index)

-- ---- floats
-- the sign of the triangle's signed area; none if it vanishes
abbrev pub float_facing : List Plane → List FloatPoint → Triangle → Option Sign
float_facing planes ps t = if vanishes (triangle_at planes ps t) then None
    else Some (sgn (signed_area (plane_at planes t.first.plane) (float_point (point_at ps t.first.start))
    (float_point (point_at ps t.second.start)) (float_point (point_at ps t.third.start))))

abbrev pub AreFloatFacings : List Plane → List FloatPoint → List Triangle → Facings → Type 0
AreFloatFacings planes ps ts f = AreFacings (map (float_facing planes ps) ts) f

-- ---- decimals
abbrev pub decimal_facing : Plane → List DecimalPoint → IndexedTriangle → Option Sign
decimal_facing p vs t = Some (sgn (signed_area p (decimal_point (vertices.point_at vs t.a))
    (decimal_point (vertices.point_at vs t.b)) (decimal_point (vertices.point_at vs t.c))))

-- the signs of triangles of which the first has the plane whose number has this index
abbrev pub decimal_facings_from : List Plane → List ℕ → List DecimalPoint → ℕ → List IndexedTriangle →
    List (Option Sign)
decimal_facings_from planes numbers vs index [] = []
decimal_facings_from planes numbers vs index (t ∷ ts) =
    decimal_facing (numbered_plane planes numbers index) vs t ∷ decimal_facings_from planes numbers vs (suc index) ts

abbrev pub AreDecimalFacings : List Plane → List ℕ → List DecimalPoint → List IndexedTriangle → Facings → Type 0
AreDecimalFacings planes numbers vs ts f = AreFacings (decimal_facings_from planes numbers vs 0 ts) f
