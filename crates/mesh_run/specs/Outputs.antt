-- The output of a request, and what it means
use Rattle.std.specs.Prelude.{ℕ, List, []}
use Rattle.std.specs.declared.option.Option.{Option}
use Rattle.mesh_boolean.specs.declared.files.InputFile.{InputFile}
use Rattle.mesh_boolean.specs.declared.wanted.WantedFile.{WantedFile}
use Rattle.mesh_boolean.specs.declared.output.SolidFile.{SolidFile}
use Rattle.mesh_boolean.specs.Files.{IsPlaced}
use Rattle.mesh_boolean.specs.Outputs.{IsOutput}
use Rattle.mesh_boolean.specs.Tolerance.{MeansOutsideMoves, MeansOutsideRounding}
use Rattle.ember_expr.specs.Formula.{Formula}
use Rattle.mesh_grid.specs.declared.grid.choice.Wanted.{Wanted}
use Rattle.ember_meaning.specs.Regions.Meaning.{HaveMeaning}
use Rattle.ember_meaning.specs.Regions.Nearby.{WindOnceAtMost}
use Rattle.mesh_words.specs.declared.command.Request.{Request}
use Rattle.mesh_words.specs.declared.command.SnapRequest.{SnapRequest}
use Rattle.mesh_scene.specs.declared.scene.scene.PlacedScene.{PlacedScene}
use Rattle.mesh_scene.specs.Scene.Images.{images_of}
use Rattle.mesh_solid.specs.Mesh.MeshFaces.{faces_of_mesh}
use Rattle.mesh_run.specs.Asked.{Asks, IsWanted}
use Rattle.mesh_run.specs.Files.{AreFiles}

-- the output is that of the files with these names
pub record IsFilesOutput (told : List ℕ → Option (List ℕ)) (names : List (List ℕ)) (formula : Formula)
    (wanted : WantedFile) (output : SolidFile) : Type 0 where
  pub files : List InputFile
  pub are_files : AreFiles told names files
  pub is_output : IsOutput files formula wanted output

-- before the output's triangles are rounded, they wind once where the expression is true of the files' triangles on the
-- grid, and not at all elsewhere; around each point that is clear of the output's triangles alone, once or not at all.
-- The written triangles do so outside of the reported moves: with the winding numbers of the files, if these are
-- closed, and with those of their triangles on the grid
pub record MeansFormula (files : List InputFile) (formula : Formula) (wanted : WantedFile) (output : SolidFile)
    (is : IsOutput files formula wanted output) : Type 0 where
  pub means : HaveMeaning (images_of output.grid is.surfaces) formula (faces_of_mesh is.mesh)
  pub once : WindOnceAtMost (faces_of_mesh is.mesh)
  pub outside_moves : MeansOutsideMoves files formula wanted output is
  pub outside_rounding : MeansOutsideRounding files formula wanted output is

-- the output is what the request asks for, and means it
pub record IsOutputFor (request : Request) (told : List ℕ → Option (List ℕ)) (output : SolidFile) : Type 0 where
  pub wanted : WantedFile
  pub formula : Formula
  pub asks : Asks request wanted formula
  pub of_files : IsFilesOutput told request.files formula wanted output
  pub means : MeansFormula of_files.files formula wanted output of_files.is_output

-- ---- meshes on their grid
-- the placed files are those with these names
pub record AreFilesPlaced (told : List ℕ →
    Option (List ℕ)) (names : List (List ℕ)) (wanted : Wanted) (placed : PlacedScene) :
    Type 0 where
  pub files : List InputFile
  pub are_files : AreFiles told names files
  pub is_placed : IsPlaced files [] wanted placed

-- they are on the grid that the request asks for
pub record IsPlacedFor (request : SnapRequest) (told : List ℕ → Option (List ℕ)) (placed : PlacedScene) : Type 0 where
  pub wanted : Wanted
  pub asks : IsWanted request.step wanted
  pub of_files : AreFilesPlaced told request.files wanted placed
