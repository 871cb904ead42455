-- The surfaces that the readings of files give, one file after the other, and the scene of them
use Rattle.std.proofs.Common.{◌≡◌, ℕ, ◌+◌, ◌<◌, List, [], ◌∷◌, ◌++◌, map, length, take, get_or, Option, sym, ap, subst, ◌∙◌}
use Rattle.std.specs.List.{All}
use Rattle.std.proofs.lemmas.List.{take_more, map-append, length-map}
use Rattle.std.proofs.lemmas.List.Elements.{All-push}
use Rattle.mesh_grid.specs.declared.grid.choice.Wanted.{Wanted}
use Rattle.mesh_grid.specs.Grid.Grids.{IsWithinLimit, IsGrid}
use Rattle.ember_model.specs.declared.tri.Tri.{Tri}
use Rattle.ember_model.specs.Meshes.{IsScene}
use Rattle.mesh_grid.specs.Moves.Shown.{AreMoves}
use Rattle.mesh_scene.specs.declared.scene.scene.PlacedScene.{PlacedScene}
use Rattle.mesh_scene.specs.Scene.Images.{images_of, counts_on}
use Rattle.mesh_grid.specs.Snap.Steps.{IsStep}
use Rattle.mesh_read.specs.declared.surface.surface.Surface.{Surface}
use Rattle.mesh_placing.specs.declared.files.Placing.{Placing}
use Rattle.mesh_boolean.specs.declared.files.InputFile.{InputFile}
use Rattle.mesh_boolean.specs.Images.{AreGiven}
use Rattle.mesh_boolean.specs.Files.{reading, held, AreReadings, IsPlaced}

-- the readings of one file more
pub readings_more : (files : List InputFile) (i : ℕ) (d : InputFile) (before after : List Surface) (surface : Surface) →
    i < length files → AreReadings (take i files) before → after ≡ before ++ surface ∷ [] →
    reading (get_or files i d) ≡ held surface → AreReadings (take (i + 1) files) after
readings_more files i d before after surface l h p q =
    ap (map reading) (take_more files i d l) ∙ map-append reading (take i files) (get_or files i d ∷ [])
    ∙ (λ k. h k ++ q k ∷ []) ∙ sym (ap (map held) p ∙ map-append held before (surface ∷ []))

-- surfaces within the limit, with one more
pub within_more : (before after : List Surface) (surface : Surface) → All IsWithinLimit before →
    after ≡ before ++ surface ∷ [] → IsWithinLimit surface → All IsWithinLimit after
within_more before after surface h p q = subst (All IsWithinLimit) (sym p) (All-push IsWithinLimit before surface h q)

-- there are as many surfaces as files
pub readings_are_as_many : (files : List InputFile) (surfaces : List Surface) → AreReadings files surfaces → length surfaces ≡ length files
readings_are_as_many files surfaces h =
    sym (length-map surfaces held) ∙ sym (ap length h) ∙ length-map files reading

-- the scene of surfaces is that of the files whose readings give them
pub files_are_placed : (files : List InputFile) (placings : List (Option Placing)) (wanted : Wanted) (as_read surfaces : List Surface)
    (placed : PlacedScene) → AreReadings files as_read → AreGiven placings as_read surfaces → IsStep placed.grid.step → IsGrid surfaces wanted placed.grid →
    placed.scene.tris ≡ images_of placed.grid surfaces → placed.scene.meshes ≡ length surfaces →
    placed.counts.items ≡ map (counts_on placed.grid) surfaces → AreMoves placed.grid surfaces placed.moves.items →
    IsPlaced files placings wanted placed
files_are_placed files placings wanted as_read surfaces placed read given step grid tris meshes counts moves = record {
  surfaces = surfaces;
  are_placed = record {
    as_read = as_read;
    read = read;
    given = given;
    on_grid = record { step = step; grid = grid };
    scene = subst (λ (ts : List Tri). IsScene ts (length surfaces)) tris (subst (IsScene placed.scene.tris) meshes placed.scene.kept);
  };
  tris = tris;
  meshes = meshes;
  counts = counts;
  moves = moves;
}
