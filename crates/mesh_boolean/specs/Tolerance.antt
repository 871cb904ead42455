-- What an output means in terms of the files, as they are read
use Rattle.std.specs.Prelude.{List, All}
use Rattle.ember_expr.specs.Formula.{Formula}
use Rattle.ember_model.specs.declared.point.Spot.{Spot}
use Rattle.mesh_effect.specs.Rounding.Shown.{rounded_of}
use Rattle.mesh_grid.specs.declared.grid.grid.Grid.{Grid}
use Rattle.mesh_grid.specs.Grid.Closed.{IsSurfaceClosed}
use Rattle.mesh_scene.specs.Scene.Images.{images_of}
use Rattle.mesh_solid.specs.declared.mesh.mesh.SolidMesh.{SolidMesh}
use Rattle.mesh_tolerance.specs.Files.{triangles_of_floats, triangles_of_decimals}
use Rattle.mesh_tolerance.specs.Files.{HaveMeaningOutsideMoves, HaveMeaningOutsideRounding}
use Rattle.mesh_written.specs.Closed.{Positions}
use Rattle.mesh_written.specs.Digits.{written_places}
use Rattle.mesh_boolean.specs.declared.files.InputFile.{InputFile}
use Rattle.mesh_boolean.specs.declared.output.SolidFile.{SolidFile}
use Rattle.mesh_boolean.specs.declared.wanted.MeshFormat.{MeshFormat}
use Rattle.mesh_boolean.specs.declared.wanted.MeshFormat.TheVariants.{Floats, Text}
use Rattle.mesh_boolean.specs.declared.wanted.WantedFile.{WantedFile}
use Rattle.mesh_boolean.specs.declared.writing.OutputMesh.{OutputMesh}
use Rattle.mesh_boolean.specs.Effects.{decimals_of}
use Rattle.mesh_boolean.specs.Outputs.{IsClosedAs, IsOutput}

-- the triangles of the file, in the user's unit; those of a text before any of them is cut
abbrev pub triangles_of_file : (format : MeshFormat) (grid : Grid) (mesh : SolidMesh) (file : OutputMesh) →
    IsClosedAs format grid mesh file → List (Positions Spot)
triangles_of_file (Floats format) grid mesh file is = triangles_of_floats is.floats.written
triangles_of_file (Text format digits) grid mesh file is =
    triangles_of_decimals (written_places digits grid.step) (decimals_of digits grid mesh)

-- if the surfaces of the files are closed, the file's triangles have the meaning outside of the moves to the grid and
-- of the reported rounding move, where the winding numbers are those of the surfaces
abbrev pub MeansOutsideMoves : (files : List InputFile) (formula : Formula) (wanted : WantedFile) (out : SolidFile) →
    IsOutput files formula wanted out → Type 0
MeansOutsideMoves files formula wanted out is =
    All IsSurfaceClosed is.surfaces → HaveMeaningOutsideMoves out.grid is.surfaces formula is.mesh
    (rounded_of out.written.effect.greatest) (triangles_of_file wanted.format out.grid is.mesh out.written is.written)

-- the same with the winding numbers of the meshes on the grid, closed there, outside of the reported rounding move
abbrev pub MeansOutsideRounding : (files : List InputFile) (formula : Formula) (wanted : WantedFile) (out : SolidFile) →
    IsOutput files formula wanted out → Type 0
MeansOutsideRounding files formula wanted out is =
    HaveMeaningOutsideRounding out.grid (images_of out.grid is.surfaces) formula is.mesh
    (rounded_of out.written.effect.greatest) (triangles_of_file wanted.format out.grid is.mesh out.written is.written)
