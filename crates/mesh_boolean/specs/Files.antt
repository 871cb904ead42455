-- What mesh files hold, and the scene of it
use Rattle.std.specs.Prelude.{◌≡◌, ◌≤◌, All, List, length, map, Option, Result, Ok}
use Rattle.mesh_file.specs.File.Faults.{Fault}
use Rattle.mesh_file.specs.File.ReadFile.{reading_of}
use Rattle.mesh_grid.specs.declared.grid.choice.Wanted.{Wanted}
use Rattle.mesh_grid.specs.declared.grid.grid.Grid.{Grid}
use Rattle.ember_model.specs.Meshes.{IsScene}
use Rattle.mesh_grid.specs.Moves.Shown.{AreMoves}
use Rattle.mesh_scene.specs.declared.scene.scene.PlacedScene.{PlacedScene}
use Rattle.mesh_scene.specs.Scene.Faults.{IsSceneGrid}
use Rattle.mesh_scene.specs.Scene.Images.{images_of, counts_on}
use Rattle.mesh_read.specs.declared.surface.surface.Surface.{Surface}
use Rattle.mesh_read.specs.Surface.Surfaces.{Content, content_of}
use Rattle.mesh_grid.specs.Grid.Closed.{IsSurfaceClosed}
use Rattle.mesh_placing.specs.declared.files.Placing.{Placing}
use Rattle.mesh_boolean.specs.declared.files.InputFile.{InputFile}
use Rattle.mesh_boolean.specs.Images.{AreGiven}

-- at most 2^28 bytes
abbrev pub IsSmall : InputFile → Type 0
IsSmall file = length file.bytes.now ≤ 268435456

-- what a file says, or its first fault
abbrev pub reading : InputFile → Result Content Fault
reading file = reading_of file.name.now file.bytes.now

-- what a surface says, as a reading
abbrev pub held : Surface → Result Content Fault
held surface = Ok (content_of surface)

-- the readings of the files give these surfaces, in order
abbrev pub AreReadings : List InputFile → List Surface → Type 0
AreReadings files surfaces = map reading files ≡ map held surfaces

-- the readings of the files give surfaces; these are the same, or their images where a file is placed, this is the grid
-- that is wanted for them, and there they are a scene
pub record ArePlaced (files : List InputFile) (placings : List (Option Placing)) (wanted : Wanted)
    (surfaces : List Surface) (grid : Grid) : Type 0 where
  pub as_read : List Surface
  pub read : AreReadings files as_read
  pub given : AreGiven placings as_read surfaces
  pub on_grid : IsSceneGrid surfaces wanted grid
  pub scene : IsScene (images_of grid surfaces) (length surfaces)

-- the surfaces of the files, where they are placed, are closed by the exact positions of their corners
abbrev pub AreClosedWherePlaced : List InputFile → List (Option Placing) → Type 0
AreClosedWherePlaced files placings =
    (read given : List Surface) → AreReadings files read → AreGiven placings read given → All IsSurfaceClosed given

-- the triangles, counts and moves of such surfaces, each of which is a mesh
pub record IsPlaced (files : List InputFile) (placings : List (Option Placing)) (wanted : Wanted)
    (placed : PlacedScene) : Type 0 where
  pub surfaces : List Surface
  pub are_placed : ArePlaced files placings wanted surfaces placed.grid
  pub tris : placed.scene.tris ≡ images_of placed.grid surfaces
  pub meshes : placed.scene.meshes ≡ length surfaces
  pub counts : placed.counts.items ≡ map (counts_on placed.grid) surfaces
  pub moves : AreMoves placed.grid surfaces placed.moves.items
