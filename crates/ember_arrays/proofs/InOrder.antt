-- The surfaces of meshes, one after the other, and the scene of them
use Rattle.std.proofs.Common.{◌≡◌, ℕ, ◌+◌, ◌<◌, List, [], ◌∷◌, ◌++◌, map, length, take, get_or, ap, refl, suc, sym, subst}
use Rattle.std.specs.List.{AllZip}
use Rattle.std.proofs.lemmas.List.{take_more}
use Rattle.ember_algebra.proofs.Lists.{AllZip-push}
use Rattle.ember_model.specs.declared.tri.Tri.{Tri}
use Rattle.ember_model.specs.Meshes.{IsScene}
use Rattle.mesh_arrays.specs.Arrays.{IsSurfaceOf}
use Rattle.mesh_arrays.specs.declared.mesh.ArrayMesh.{ArrayMesh}
use Rattle.mesh_grid.specs.declared.grid.choice.Wanted.{Wanted}
use Rattle.mesh_grid.specs.Grid.Grids.{IsGrid}
use Rattle.mesh_grid.specs.Moves.Shown.{AreMoves}
use Rattle.mesh_grid.specs.Snap.Steps.{IsStep}
use Rattle.mesh_read.specs.declared.surface.surface.Surface.{Surface}
use Rattle.mesh_scene.specs.declared.scene.scene.PlacedScene.{PlacedScene}
use Rattle.mesh_scene.specs.Scene.Images.{counts_on, images_of}
use Rattle.ember_arrays.specs.Meshes.{AreSurfacesOf, IsPlaced}

-- the surface of one mesh more
pub surfaces_more : (meshes : List ArrayMesh) (i : ℕ) (d : ArrayMesh) (before after : List Surface) (surface : Surface) →
    i < length meshes → AreSurfacesOf (take i meshes) before → after ≡ before ++ surface ∷ [] →
    IsSurfaceOf (get_or meshes i d) surface → AreSurfacesOf (take (i + 1) meshes) after
surfaces_more meshes i d before after surface l h p is =
    subst (λ ms. AllZip IsSurfaceOf ms after) (sym (take_more meshes i d l))
    (subst (AllZip IsSurfaceOf (take i meshes ++ get_or meshes i d ∷ [])) (sym p)
    (AllZip-push IsSurfaceOf (take i meshes) before (get_or meshes i d) surface h is))

-- there are as many surfaces as meshes
pub surfaces_are_as_many : (meshes : List ArrayMesh) (surfaces : List Surface) → AreSurfacesOf meshes surfaces → length surfaces ≡ length meshes
surfaces_are_as_many [] [] h = refl
surfaces_are_as_many [] (surface ∷ surfaces) h = absurd h
surfaces_are_as_many (mesh ∷ meshes) [] h = absurd h
surfaces_are_as_many (mesh ∷ meshes) (surface ∷ surfaces) h = ap suc (surfaces_are_as_many meshes surfaces h.1)

-- the scene of surfaces is that of the meshes whose surfaces they are
unfoldable pub meshes_are_placed : (meshes : List ArrayMesh) (wanted : Wanted) (surfaces : List Surface) (placed : PlacedScene) →
    AreSurfacesOf meshes surfaces → IsStep placed.grid.step → IsGrid surfaces wanted placed.grid →
    placed.scene.tris ≡ images_of placed.grid surfaces → placed.scene.meshes ≡ length surfaces →
    placed.counts.items ≡ map (counts_on placed.grid) surfaces → AreMoves placed.grid surfaces placed.moves.items →
    IsPlaced meshes wanted placed
meshes_are_placed meshes wanted surfaces placed are step grid tris count counts moves = record {
  surfaces = surfaces;
  are_placed = record {
    are = are;
    on_grid = record { step = step; grid = grid };
    scene = subst (λ (ts : List Tri). IsScene ts (length surfaces)) tris (subst (IsScene placed.scene.tris) count placed.scene.kept);
  };
  tris = tris;
  count = count;
  counts = counts;
  moves = moves;
}
