-- Meshes in arrays on their grid
use Rattle.std.specs.Prelude.{◌≡◌, Bool, List, length, map}
use Rattle.std.specs.List.{AllZip}
use Rattle.ember_model.specs.Meshes.{IsScene}
use Rattle.mesh_arrays.specs.Arrays.{IsSurfaceOf}
use Rattle.mesh_arrays.specs.declared.mesh.ArrayMesh.{ArrayMesh}
use Rattle.mesh_grid.specs.Moves.Shown.{AreMoves}
use Rattle.mesh_grid.specs.declared.grid.choice.Wanted.{Wanted}
use Rattle.mesh_grid.specs.declared.grid.grid.Grid.{Grid}
use Rattle.mesh_read.specs.declared.surface.surface.Surface.{Surface}
use Rattle.mesh_scene.specs.Scene.Faults.{IsSceneGrid}
use Rattle.mesh_scene.specs.Scene.Images.{counts_on, images_of}
use Rattle.mesh_scene.specs.declared.scene.scene.PlacedScene.{PlacedScene}
use Rattle.mesh_solid.specs.Mesh.Asked.{IsThereIf}
use Rattle.ember_arrays.specs.Sources.{inputs_from}
use Rattle.ember_arrays.specs.declared.placing.PlacedArrays.{PlacedArrays}

-- the surface of each mesh, in order
abbrev pub AreSurfacesOf : List ArrayMesh → List Surface → Type 0
AreSurfacesOf meshes surfaces = AllZip IsSurfaceOf meshes surfaces

-- these are the surfaces of the meshes, this is the grid that is wanted for them, and there they are a scene
pub record ArePlaced (meshes : List ArrayMesh) (wanted : Wanted) (surfaces : List Surface) (grid : Grid) : Type 0 where
  pub are : AreSurfacesOf meshes surfaces
  pub on_grid : IsSceneGrid surfaces wanted grid
  pub scene : IsScene (images_of grid surfaces) (length surfaces)

-- the triangles, counts and moves of such surfaces, each of which is a mesh
pub record IsPlaced (meshes : List ArrayMesh) (wanted : Wanted) (placed : PlacedScene) : Type 0 where
  pub surfaces : List Surface
  pub are_placed : ArePlaced meshes wanted surfaces placed.grid
  pub tris : placed.scene.tris ≡ images_of placed.grid surfaces
  pub count : placed.scene.meshes ≡ length surfaces
  pub counts : placed.counts.items ≡ map (counts_on placed.grid) surfaces
  pub moves : AreMoves placed.grid surfaces placed.moves.items

-- the same, and if it is wanted, for each triangle of the scene the triangle of a mesh that it is
pub record IsPlacedWith (meshes : List ArrayMesh) (wanted : Wanted) (wants_inputs : Bool) (it : PlacedArrays) :
    Type 0 where
  pub is : IsPlaced meshes wanted it.placed
  pub inputs : IsThereIf wants_inputs (λ inputs. inputs.items ≡ inputs_from it.placed.grid 1 is.surfaces) it.inputs
