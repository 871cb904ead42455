-- Files before and after a Boolean, in the user's unit, and what the written one means
use Rattle.std.specs.Prelude.{◌≡◌, ℕ, ◌^◌, ℤ, pos, ◌+ℤ◌, ◌*ℤ◌, ◌<ℤ◌, Option, Some, None, List, map, slice_get}
use Rattle.std.specs.Prelude.{slice_index, length}
use Rattle.std.specs.List.{AllByRecursion}
use Rattle.ember_algebra.specs.Vector.{Vector}
use Rattle.ember_expr.specs.Formula.{Formula}
use Rattle.ember_expr.specs.Truth.{truth}
use Rattle.ember_meaning.specs.Regions.Meaning.{IsFalseOutside, one_if}
use Rattle.ember_model.specs.declared.point.Axis.{Axis}
use Rattle.ember_model.specs.declared.point.Spot.{Spot}
use Rattle.ember_model.specs.declared.tri.Tri.{Tri}
use Rattle.ember_model.specs.Clear.{AreClear}
use Rattle.ember_model.specs.Meshes.{IsScene, wind, vector, faces_of}
use Rattle.mesh_effect.specs.Rounding.Floats.{float_number}
use Rattle.mesh_effect.specs.Rounding.Greatest.{greatest_float_move, greatest_decimal_move}
use Rattle.mesh_effect.specs.Rounding.Shown as effect
use Rattle.mesh_grid.specs.declared.grid.grid.Grid.{Grid}
use Rattle.mesh_grid.specs.Moves.Shown.{greatest_move}
use Rattle.mesh_grid.specs.Snap.Steps.{IsStep}
use Rattle.mesh_number.specs.Number.Fractions.{Fraction}
use Rattle.mesh_number.specs.Number.Values.{value_of}
use Rattle.mesh_read.specs.declared.surface.surface.Facet.{Facet}
use Rattle.mesh_read.specs.declared.surface.surface.Surface.{Surface}
use Rattle.mesh_read.specs.declared.surface.surface.Vertex.{Vertex}
use Rattle.mesh_scene.specs.Scene.Images.{images_of}
use Rattle.mesh_solid.specs.declared.mesh.mesh.SolidMesh.{SolidMesh}
use Rattle.mesh_solid.specs.Mesh.Meshes.{IsSolidMesh}
use Rattle.mesh_write.specs.declared.stl.triangle.FloatPoint.{FloatPoint}
use Rattle.mesh_write.specs.declared.stl.triangle.FloatTriangle.{FloatTriangle}
use Rattle.mesh_write.specs.declared.vertices.point.DecimalPoint.{DecimalPoint}
use Rattle.mesh_write.specs.declared.vertices.point.DecimalTriangle.{DecimalTriangle}
use Rattle.mesh_write.specs.Vertices.Vertices as vertices
use Rattle.mesh_written.specs.Closed.{Positions, positions_of, decimal_positions}
use Rattle.mesh_written.specs.Decimals.{decimal_point}
use Rattle.mesh_written.specs.DecimalTriangles.{decimal_triangles}
use Rattle.mesh_written.specs.Triangles.{point_at, AreWritten}
use Rattle.mesh_tolerance.specs.Distances.{IsFar}
use Rattle.mesh_tolerance.specs.Meshes.{numbers_of, corner_at}
use Rattle.mesh_tolerance.specs.Moves.{PointsMoveWithin}
use Rattle.mesh_tolerance.specs.Similar.{placed_by}
use Rattle.mesh_tolerance.specs.Triangles.{faces_of_triangles, with_points}

-- ---- points in the user's unit
-- the point with these coordinates
abbrev pub point_of : Fraction → Fraction → Fraction → Spot
point_of x y z =
    let a = pos x.denominator in let b = pos y.denominator in let c = pos z.denominator in
    record { x = x.numerator *ℤ (b *ℤ c); y = y.numerator *ℤ (c *ℤ a); z = z.numerator *ℤ (a *ℤ b); w = a *ℤ (b *ℤ c) }

abbrev pub point_of_vertex : Vertex → Spot
point_of_vertex v = point_of (value_of v.x) (value_of v.y) (value_of v.z)

abbrev pub point_of_floats : FloatPoint → Spot
point_of_floats p = point_of (float_number p.x) (float_number p.y) (float_number p.z)

-- so many units of the last decimal place
abbrev pub decimal_of_units : ℕ → ℤ → Fraction
decimal_of_units places units = record { numerator = units; denominator = 10 ^ places }

abbrev pub point_of_decimals : ℕ → DecimalPoint → Spot
point_of_decimals places p =
    point_of (decimal_of_units places p.x) (decimal_of_units places p.y) (decimal_of_units places p.z)

-- ---- on the grid
-- a point of the grid in the user's unit: its coordinates and the offset, in steps
abbrev pub in_unit : Grid → Spot → Spot
in_unit g v = record {
  x = (v.x +ℤ g.offset.x *ℤ v.w) *ℤ pos g.step.numerator;
  y = (v.y +ℤ g.offset.y *ℤ v.w) *ℤ pos g.step.numerator;
  z = (v.z +ℤ g.offset.z *ℤ v.w) *ℤ pos g.step.numerator;
  w = pos g.step.denominator *ℤ v.w;
}

abbrev pub offset_of : Grid → Vector
offset_of g = record { x = g.offset.x; y = g.offset.y; z = g.offset.z }

-- and a point in the user's unit on the grid
abbrev pub on_grid : Grid → Spot → Spot
on_grid g p = placed_by (pos g.step.numerator) (pos g.step.denominator) (offset_of g) p

-- ---- the files as they are read
-- what is no vertex, of no surface, is at the zero of the grid
abbrev pub vertex_from : Grid → Option Vertex → Spot
vertex_from g None = in_unit g (record { x = pos 0; y = pos 0; z = pos 0; w = pos 1 })
vertex_from g (Some v) = point_of_vertex v

abbrev pub vertex_at : Grid → List Vertex → ℕ → Spot
vertex_at g vertices index = vertex_from g (slice_get vertices index)

-- the indices of a triangle's corners
abbrev pub facet_indices : Facet → Positions ℕ
facet_indices f =
    record { a = slice_index f.corners 0; b = slice_index f.corners 1; c = slice_index f.corners 2 }

abbrev pub surface_triangles : Grid → Surface → List (Positions Spot)
surface_triangles g s = map (with_points (vertex_at g s.vertices.items)) (map facet_indices s.facets.items)

-- the winding numbers of the surfaces, in order
abbrev pub windings : Axis → Grid → List Surface → Spot → List ℤ
windings a g ss p = map (λ s. wind a (faces_of_triangles (surface_triangles g s)) p) ss

-- p is clear of the surface, and farther from it than any of its corners moves to the grid
pub record IsOutsideMoves (g : Grid) (p : Spot) (s : Surface) : Type 0 where
  pub clear : AreClear (faces_of_triangles (surface_triangles g s)) p
  pub far : AllByRecursion (IsFar (greatest_move g s).size (10 ^ (greatest_move g s).places) p) (surface_triangles g s)

-- ---- the exact result
abbrev pub exact_in_unit : Grid → SolidMesh → List (Positions Spot)
exact_in_unit g mesh =
    map (with_points (λ n. in_unit g (corner_at mesh.corners.items n))) (map numbers_of mesh.triangles.items)

-- the triangles of the surfaces on the grid are a scene, and the mesh is that of the solid of an expression that is
-- false outside
pub record IsSolidOf (g : Grid) (ss : List Surface) (x : Formula) (mesh : SolidMesh) : Type 0 where
  pub step : IsStep g.step
  pub scene : IsScene (images_of g ss) (length ss)
  pub outside : IsFalseOutside x
  pub solid : IsSolidMesh (images_of g ss) x mesh

-- ---- the file as it is written
abbrev pub triangles_of_floats : List FloatTriangle → List (Positions Spot)
triangles_of_floats ws = map (λ w. with_points point_of_floats (positions_of w)) ws

abbrev pub triangles_of_decimals : ℕ → List DecimalTriangle → List (Positions Spot)
triangles_of_decimals places ts = map (λ t. with_points (point_of_decimals places) (decimal_positions t)) ts

-- these are the triangles of the mesh, rounded to floats
abbrev pub AreFloatsOf : Grid → SolidMesh → List FloatTriangle → Type 0
AreFloatsOf g mesh ws =
    AreWritten g.step g.offset mesh.planes.items mesh.corners.items mesh.triangles.items ws

-- how far a corner moves at most when the corners become these points
abbrev pub float_move : Grid → SolidMesh → List FloatPoint → effect.Rounded
float_move g mesh points = greatest_float_move g.step g.offset mesh.corners.items points mesh.triangles.items

-- the triangles of the mesh, rounded to decimals with these places, and how far a corner moves at most
abbrev pub decimals_of : ℕ → Grid → SolidMesh → List DecimalTriangle
decimals_of places g mesh =
    decimal_triangles places g.step g.offset mesh.corners.items mesh.triangles.items

abbrev pub decimal_move : ℕ → Grid → SolidMesh → effect.Rounded
decimal_move places g mesh =
    greatest_decimal_move places g.step g.offset mesh.corners.items mesh.triangles.items

-- p is clear of the written triangles, and farther from the exact result than any of its corners was moved when it was
-- rounded
pub record IsOutsideRounding (g : Grid) (mesh : SolidMesh) (move : effect.Rounded) (written : List (Positions Spot))
    (p : Spot) : Type 0 where
  pub clear : AreClear (faces_of_triangles written) p
  pub far : AllByRecursion (IsFar move.size (10 ^ move.places) p) (exact_in_unit g mesh)

-- no point of an exact triangle is farther than the move from the one with the same barycentric coordinates on the
-- triangle of the points to which its corners are rounded
abbrev pub StayNear : Grid → SolidMesh → effect.Rounded → (ℕ → Spot) → Type 0
StayNear g mesh move to =
    PointsMoveWithin move.size (10 ^ move.places) (λ n. in_unit g (corner_at mesh.corners.items n)) to
    (map numbers_of mesh.triangles.items)

-- the points to which the corners are rounded, by number
abbrev pub float_at : List FloatPoint → ℕ → Spot
float_at points n = point_of_floats (point_at points n)

abbrev pub decimals_at : ℕ → Grid → SolidMesh → ℕ → Spot
decimals_at places g mesh n =
    point_of_decimals places (vertices.point_at (map (decimal_point places g.step g.offset) mesh.corners.items) n)

-- ---- the theorem from file to file
-- the written triangles wind once where the expression is true of the winding numbers of the surfaces, and not at all
-- elsewhere: at each point that is outside the moves of the surfaces and outside the rounding
abbrev pub HaveMeaningOutsideMoves : Grid → List Surface → Formula → SolidMesh → effect.Rounded →
    List (Positions Spot) → Type 0
HaveMeaningOutsideMoves g ss x mesh move written =
    (a b : Axis) (p : Spot) → pos 0 <ℤ p.w → AllByRecursion (IsOutsideMoves g p) ss →
    IsOutsideRounding g mesh move written p →
    wind a (faces_of_triangles written) p ≡ one_if (truth (windings b g ss p) x)

-- the second half of it, from these triangles on the grid to the written ones
abbrev pub HaveMeaningOutsideRounding : Grid → List Tri → Formula → SolidMesh → effect.Rounded →
    List (Positions Spot) → Type 0
HaveMeaningOutsideRounding g tris x mesh move written =
    (a b : Axis) (p : Spot) → pos 0 <ℤ p.w → AreClear (faces_of tris) (on_grid g p) →
    IsOutsideRounding g mesh move written p →
    wind a (faces_of_triangles written) p ≡ one_if (truth (vector b tris (on_grid g p)) x)
