-- What rounding does to a mesh
use Rattle.std.specs.Prelude.{◌≡◌, ℕ, ◌*◌, ◌^◌, Bool, nat_lt, List, map}
use Rattle.std.specs.declared.option.Option.{Option}
use Rattle.mesh_effect.specs.Facing.Facings.{AreDecimalFacings, AreFloatFacings}
use Rattle.mesh_grid.specs.declared.grid.grid.Grid.{Grid}
use Rattle.mesh_effect.specs.declared.rounding.length.Move.{Move}
use Rattle.mesh_effect.specs.Rounding.Greatest.{greatest_decimal_move, greatest_float_move}
use Rattle.mesh_effect.specs.Rounding.Shown.{rounded_of}
use Rattle.mesh_grid.specs.declared.snap.steps.GridStep.{GridStep}
use Rattle.mesh_solid.specs.declared.mesh.mesh.SolidMesh.{SolidMesh}
use Rattle.mesh_write.specs.declared.stl.triangle.FloatPoint.{FloatPoint}
use Rattle.mesh_write.specs.declared.vertices.point.DecimalTriangle.{DecimalTriangle}
use Rattle.mesh_write.specs.declared.vertices.point.IndexedTriangle.{IndexedTriangle}
use Rattle.mesh_write.specs.Vertices.Vertices.{vertices_of, indexed}
use Rattle.mesh_written.specs.DecimalTriangles.{decimal_origins, decimal_planes, decimal_triangles}
use Rattle.mesh_written.specs.Digits.{written_places}
use Rattle.mesh_boolean.specs.declared.effect.RoundingEffect.{RoundingEffect}

-- ---- decimals
-- the triangles of a mesh on the grid, in the user's unit and rounded to decimals
abbrev pub decimals_of : Option ℕ → Grid → SolidMesh → List DecimalTriangle
decimals_of digits grid mesh =
    decimal_triangles (written_places digits grid.step) grid.step grid.offset mesh.corners.items mesh.triangles.items

-- and the numbers of their planes
abbrev pub planes_of_decimals : Option ℕ → Grid → SolidMesh → List ℕ
planes_of_decimals digits grid mesh =
    decimal_planes (written_places digits grid.step) grid.step grid.offset mesh.corners.items mesh.triangles.items

-- and their indices among the mesh's triangles
abbrev pub origins_of_decimals : Option ℕ → Grid → SolidMesh → List ℕ
origins_of_decimals digits grid mesh =
    decimal_origins (written_places digits grid.step) grid.step grid.offset mesh.corners.items mesh.triangles.items

-- triangles by the indices of their corners, where each point is one vertex
abbrev pub over_vertices : List DecimalTriangle → List IndexedTriangle
over_vertices ts = map (indexed (vertices_of ts)) ts

-- ---- effects
-- the move is more than a hundredth of the step
abbrev pub is_above_hundredth : Move → GridStep → Bool
is_above_hundredth m s = nat_lt (s.numerator * 10 ^ m.places) (100 * m.size * s.denominator)

-- how far the corners of triangles moved at most when the corners became these points, whether this is more than a
-- hundredth of the step, and how many of the triangles that are left have no area or are turned over
pub record IsFloatEffect (grid : Grid) (mesh : SolidMesh) (points : List FloatPoint) (effect : RoundingEffect) :
    Type 0 where
  pub greatest : rounded_of effect.greatest ≡
      greatest_float_move grid.step grid.offset mesh.corners.items points mesh.triangles.items
  pub coarse : effect.is_coarse ≡ is_above_hundredth effect.greatest grid.step
  pub facings : AreFloatFacings mesh.planes.items points mesh.triangles.items effect.facings

-- the same of decimals
pub record IsDecimalEffect (digits : Option ℕ) (grid : Grid) (mesh : SolidMesh) (effect : RoundingEffect) :
    Type 0 where
  pub greatest : rounded_of effect.greatest ≡
      greatest_decimal_move (written_places digits grid.step) grid.step grid.offset mesh.corners.items
      mesh.triangles.items
  pub coarse : effect.is_coarse ≡ is_above_hundredth effect.greatest grid.step
  pub facings : AreDecimalFacings mesh.planes.items (planes_of_decimals digits grid mesh)
      (vertices_of (decimals_of digits grid mesh)) (over_vertices (decimals_of digits grid mesh)) effect.facings
