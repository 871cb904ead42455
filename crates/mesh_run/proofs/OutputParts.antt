-- What is there beside an output's mesh
use Rattle.std.proofs.Common.{◌≡◌, inl, inr, ℕ, Bool, List, [], Some, None, length, map, refl, sym, ap, ◌∙◌}
use Rattle.std.proofs.lemmas.Bool.{false≢true}
use Rattle.std.proofs.lemmas.List.{length-map}
use Rattle.std.specs.declared.option.Option.{Option}
use Rattle.std.specs.Prelude.{IsSome, is_some}
use Rattle.mesh_boolean.specs.declared.files.InputFile.{InputFile}
use Rattle.mesh_boolean.specs.declared.output.SolidFile.{SolidFile}
use Rattle.mesh_boolean.specs.declared.writing.OutputMesh.{OutputMesh}
use Rattle.mesh_boolean.specs.Files.{ArePlaced}
use Rattle.mesh_boolean.specs.Images.{AreForEach}
use Rattle.mesh_boolean.proofs.ImageLists.{given_are_as_many}
use Rattle.mesh_placing.specs.Files.{ArePlacingsOf}
use Rattle.mesh_placing.specs.declared.files.Placing.{Placing}
use Rattle.mesh_grid.specs.declared.grid.choice.Wanted.{Wanted}
use Rattle.mesh_grid.specs.declared.grid.grid.Grid.{Grid}
use Rattle.mesh_words.specs.declared.command.ExportRequest.{ExportRequest}
use Rattle.mesh_words.specs.declared.command.Request.{Request}
use Rattle.mesh_words.specs.declared.command.SnapRequest.{SnapRequest}
use Rattle.mesh_grid.specs.declared.moves.length.Length.{Length}
use Rattle.mesh_grid.specs.Moves.Shown.{AreMoves, greatest_move, rounded_of}
use Rattle.mesh_scene.specs.declared.scene.counts.Counts.{Counts}
use Rattle.mesh_scene.specs.declared.scene.scene.PlacedScene.{PlacedScene}
use Rattle.mesh_scene.specs.Scene.Images.{counts_on}
use Rattle.mesh_solid.specs.Mesh.Asked.{IsThereIf}
use Rattle.mesh_read.specs.declared.surface.surface.Surface.{Surface}
use Rattle.mesh_run.specs.Exports.{IsExport}
use Rattle.mesh_run.specs.Files.{AreFiles}
use Rattle.mesh_run.specs.Outputs.{IsOutputFor, IsPlacedFor}
use Rattle.mesh_run.proofs.InfoOutcomes.{surfaces_are_as_many}
use Rattle.mesh_run.proofs.ToldFiles.{files_are_as_many}

-- ---- counts and moves
-- there are as many surfaces as names
named_surfaces : (told : List ℕ → Option (List ℕ)) (names : List (List ℕ)) (files : List InputFile) (placings : List (Option Placing))
    (wanted : Wanted) (surfaces : List Surface) (grid : Grid) → AreFiles told names files →
    ArePlaced files placings wanted surfaces grid → length surfaces ≡ length names
named_surfaces told names files placings wanted surfaces grid are placed =
    given_are_as_many placings placed.as_read surfaces placed.given
    ∙ sym (surfaces_are_as_many files placed.as_read placed.read) ∙ files_are_as_many told names files are

-- as many counts
named_counts : (told : List ℕ → Option (List ℕ)) (names : List (List ℕ)) (files : List InputFile) (placings : List (Option Placing))
    (wanted : Wanted) (surfaces : List Surface) (grid : Grid) (counts : List Counts) → AreFiles told names files →
    ArePlaced files placings wanted surfaces grid → counts ≡ map (counts_on grid) surfaces → length counts ≡ length names
named_counts told names files placings wanted surfaces grid counts are placed e =
    ap length e ∙ length-map surfaces (counts_on grid) ∙ named_surfaces told names files placings wanted surfaces grid are placed

-- and as many moves
named_moves : (told : List ℕ → Option (List ℕ)) (names : List (List ℕ)) (files : List InputFile) (placings : List (Option Placing))
    (wanted : Wanted) (surfaces : List Surface) (grid : Grid) (moves : List Length) → AreFiles told names files →
    ArePlaced files placings wanted surfaces grid → AreMoves grid surfaces moves → length moves ≡ length names
named_moves told names files placings wanted surfaces grid moves are placed e =
    sym (length-map moves rounded_of) ∙ ap length e ∙ length-map surfaces (greatest_move grid)
    ∙ named_surfaces told names files placings wanted surfaces grid are placed

-- of an output
pub output_counts_are_named : (request : Request) (told : List ℕ → Option (List ℕ)) (out : SolidFile) →
    IsOutputFor request told out → length out.counts.items ≡ length request.files
output_counts_are_named request told out h =
    let of = h.of_files in
    named_counts told request.files of.files h.wanted.placings.now h.wanted.grid of.is_output.surfaces out.grid out.counts.items of.are_files of.is_output.are_placed of.is_output.counts

pub output_moves_are_named : (request : Request) (told : List ℕ → Option (List ℕ)) (out : SolidFile) →
    IsOutputFor request told out → length out.moves.items ≡ length request.files
output_moves_are_named request told out h =
    let of = h.of_files in
    named_moves told request.files of.files h.wanted.placings.now h.wanted.grid of.is_output.surfaces out.grid out.moves.items of.are_files of.is_output.are_placed of.is_output.moves

-- of meshes on their grid
pub placed_counts_are_named : (request : SnapRequest) (told : List ℕ → Option (List ℕ)) (placed : PlacedScene) →
    IsPlacedFor request told placed → length placed.counts.items ≡ length request.files
placed_counts_are_named request told placed h =
    let of = h.of_files in
    named_counts told request.files of.files [] h.wanted of.is_placed.surfaces placed.grid placed.counts.items of.are_files of.is_placed.are_placed of.is_placed.counts

pub placed_moves_are_named : (request : SnapRequest) (told : List ℕ → Option (List ℕ)) (placed : PlacedScene) →
    IsPlacedFor request told placed → length placed.moves.items ≡ length request.files
placed_moves_are_named request told placed h =
    let of = h.of_files in
    named_moves told request.files of.files [] h.wanted of.is_placed.surfaces placed.grid placed.moves.items of.are_files of.is_placed.are_placed of.is_placed.moves

-- ---- placings
-- no placing at all, or one for each file
pub placings_are_for_each : (names places turns : List (List ℕ)) (placings : List (Option Placing)) →
    ArePlacingsOf (length names) places turns placings → AreForEach placings names
placings_are_for_each names places turns placings (inl none) = inl none.none
placings_are_for_each names places turns placings (inr each) = inr each.all

-- ---- what is asked for
-- what is asked for if a name is given is there if one is
pub named_is_there : {T A : Type 0} (asked : Bool) (P : T → Type 0) (given : Option T) (name : Option A) →
    IsThereIf asked P given → asked ≡ is_some name → IsSome name → IsSome given
named_is_there asked P None name h e s = absurd (false≢true (sym h ∙ e ∙ s))
named_is_there asked P (Some it) name h e s = refl

-- what a folder keeps
pub kept_is_there : (request : Request) (told : List ℕ → Option (List ℕ)) (out : SolidFile) → IsOutputFor request told out → IsSome request.keep → IsSome out.kept
kept_is_there request told out h s = named_is_there h.wanted.keeps _ out.kept request.keep h.of_files.is_output.kept h.asks.file.keeps s

-- and what a page shows
pub shown_is_there : (request : Request) (told : List ℕ → Option (List ℕ)) (out : SolidFile) →
    IsOutputFor request told out → IsSome request.view → IsSome out.written.shown
shown_is_there request told out h s = named_is_there h.wanted.shows _ out.written.shown request.view h.of_files.is_output.shown h.asks.file.shows s

-- and of a document
pub export_shown_is_there : (request : ExportRequest) (told : List ℕ → Option (List ℕ)) (mesh : OutputMesh) →
    IsExport request told mesh → IsSome request.view → IsSome mesh.shown
export_shown_is_there request told mesh h s = named_is_there (is_some request.view) _ mesh.shown request.view h.of_document.shown refl s
