-- What is said of all solids and of what is written of them
use Rattle.std.specs.Prelude.{ℕ, List}
use Rattle.ember_expr.specs.Formula.{Formula}
use Rattle.mesh_grid.specs.declared.grid.grid.Grid.{Grid}
use Rattle.mesh_read.specs.declared.surface.surface.Surface.{Surface}
use Rattle.mesh_scene.specs.Scene.Images.{images_of}
use Rattle.mesh_solid.specs.declared.mesh.mesh.SolidMesh.{SolidMesh}
use Rattle.mesh_write.specs.declared.stl.triangle.FloatTriangle.{FloatTriangle}
use Rattle.mesh_tolerance.specs.Files.{IsSolidOf, HaveMeaningOutsideMoves, HaveMeaningOutsideRounding, StayNear}
use Rattle.mesh_tolerance.specs.Files.{AreFloatsOf, float_at, float_move, triangles_of_floats}
use Rattle.mesh_tolerance.specs.Files.{decimals_of, decimals_at, decimal_move, triangles_of_decimals}

-- it is so of the solid of each expression over surfaces on a grid
abbrev pub AllSolids : (Grid → List Surface → Formula → SolidMesh → Type 0) → Type 0
AllSolids Is =
    (g : Grid) (ss : List Surface) (x : Formula) (mesh : SolidMesh) → IsSolidOf g ss x mesh → Is g ss x mesh

-- ---- with the winding numbers of the surfaces
abbrev pub FloatsMeanOutsideMoves : Grid → List Surface → Formula → SolidMesh → Type 0
FloatsMeanOutsideMoves g ss x mesh =
    (ws : List FloatTriangle) (written : AreFloatsOf g mesh ws) →
    HaveMeaningOutsideMoves g ss x mesh (float_move g mesh written.points) (triangles_of_floats ws)

abbrev pub DecimalsMeanOutsideMoves : Grid → List Surface → Formula → SolidMesh → Type 0
DecimalsMeanOutsideMoves g ss x mesh =
    (places : ℕ) → HaveMeaningOutsideMoves g ss x mesh (decimal_move places g mesh)
    (triangles_of_decimals places (decimals_of places g mesh))

-- ---- with those of the triangles on the grid
abbrev pub FloatsMeanOutsideRounding : Grid → List Surface → Formula → SolidMesh → Type 0
FloatsMeanOutsideRounding g ss x mesh =
    (ws : List FloatTriangle) (written : AreFloatsOf g mesh ws) → HaveMeaningOutsideRounding g (images_of g ss) x mesh
    (float_move g mesh written.points) (triangles_of_floats ws)

abbrev pub DecimalsMeanOutsideRounding : Grid → List Surface → Formula → SolidMesh → Type 0
DecimalsMeanOutsideRounding g ss x mesh =
    (places : ℕ) → HaveMeaningOutsideRounding g (images_of g ss) x mesh (decimal_move places g mesh)
    (triangles_of_decimals places (decimals_of places g mesh))

-- ---- the exact triangles and the written ones
abbrev pub FloatsStayNear : Grid → SolidMesh → Type 0
FloatsStayNear g mesh =
    (ws : List FloatTriangle) (written : AreFloatsOf g mesh ws) →
    StayNear g mesh (float_move g mesh written.points) (float_at written.points)

abbrev pub DecimalsStayNear : Grid → SolidMesh → Type 0
DecimalsStayNear g mesh = (places : ℕ) → StayNear g mesh (decimal_move places g mesh) (decimals_at places g mesh)
