-- The numbers in a status can be shown
use Rattle.std.proofs.Common.{◌<◌, ◌≤◌, ◌-◌, ℕ, List, [], length, sym, subst, arith}
use Rattle.std.proofs.lemmas.Option.{slice_get_within}
use Rattle.std.specs.declared.option.Option.{Option}
use Rattle.mesh_boolean.specs.declared.output.SolidFile.{SolidFile}
use Rattle.mesh_file.specs.declared.format.format.Format.{Format}
use Rattle.mesh_grid.specs.declared.grid.choice.Wanted.{Wanted}
use Rattle.mesh_grid.specs.declared.grid.extent.SceneExtent.{SceneExtent}
use Rattle.mesh_placing.specs.declared.files.Placing.{Placing}
use Rattle.mesh_words.specs.declared.command.Request.{Request}
use Rattle.mesh_words.specs.declared.command.SnapRequest.{SnapRequest}
use Rattle.mesh_number.proofs.DigitNumbers.{pow_ten_pos}
use Rattle.mesh_scene.specs.declared.scene.fault.Open.{Open}
use Rattle.mesh_scene.specs.declared.scene.fault.SceneFault.TheVariants as scene
use Rattle.mesh_scene.specs.declared.scene.scene.PlacedScene.{PlacedScene}
use Rattle.mesh_grid.specs.declared.snap.steps.GridStep.{GridStep}
use Rattle.mesh_grid.specs.Snap.Steps.{IsStep, fine_decade}
use Rattle.ember_io.specs.Calls.{ShelfCall}
use Rattle.mesh_run.specs.Causes.{HaveOpen, HaveSceneFault, IsSnapStop, IsStop}
use Rattle.mesh_refusal.specs.Lines.{IsShown}
use Rattle.mesh_run.specs.Outputs.{IsOutputFor, IsPlacedFor}
use Rattle.mesh_run.proofs.ToldFiles.{files_are_as_many}
use Rattle.mesh_refusal.specs.declared.status.Status.{Status}
use Rattle.mesh_refusal.specs.declared.status.Status.TheVariants.{Done, Words, StepOfNoGrid, ReadFault, WriteFault}
use Rattle.mesh_refusal.specs.declared.status.Status.TheVariants.{NotWritten, FileRefused, NoTriangles, NotAScene}
use Rattle.mesh_refusal.specs.declared.status.Status.TheVariants.{NotClosed, ExprRefused, Unbounded, LongFile}
use Rattle.mesh_refusal.specs.declared.status.Status.TheVariants.{TooManyTriangles, TooManyWritten, StepTooSmall}
use Rattle.mesh_refusal.specs.declared.status.Status.TheVariants.{TooFar, DocumentRefused, OutOfMemory, Uncertified}

-- the file that isn't closed is one of them
open_is_few : (told : List ℕ → Option (List ℕ)) (names : List (List ℕ)) (placings : List (Option Placing)) (wanted : Wanted)
    (o : Open) (format : Format) → length names ≤ 64 → HaveOpen told names placings wanted o format → o.file < 64
open_is_few told names placings wanted o format few h =
    let inside = slice_get_within h.files o.file h.format_is.file h.format_is.found in
    let as_many = files_are_as_many told names h.files h.are_files in
    omega (arith, few, inside, as_many)

-- the step that would do is above 0
least_is_shown : (told : List ℕ → Option (List ℕ)) (names : List (List ℕ)) (placings : List (Option Placing)) (wanted : Wanted)
    (extent : SceneExtent) → HaveSceneFault told names placings wanted (scene.StepTooSmall extent) →
    0 < extent.finest.denominator
least_is_shown told names placings wanted extent h =
    let least = h.is_fault.is_fault.2.is_extent.least in
    subst (λ (s : GridStep). 0 < s.denominator) (sym least.step) (pow_ten_pos (12 - fine_decade least.rank))

-- why a request gets no output can be shown
pub stop_is_shown : (request : Request) (shelf : ShelfCall) → length request.files ≤ 64 → (status : Status) → IsStop request shelf status → IsShown status
stop_is_shown request shelf few Done h = tt
stop_is_shown request shelf few (Words refusal) h = tt
stop_is_shown request shelf few StepOfNoGrid h = tt
stop_is_shown request shelf few (ReadFault i kind) h = tt
stop_is_shown request shelf few WriteFault h = tt
stop_is_shown request shelf few (NotWritten file) h = tt
stop_is_shown request shelf few (FileRefused i reason) h = tt
stop_is_shown request shelf few NoTriangles h = tt
stop_is_shown request shelf few NotAScene h = tt
stop_is_shown request shelf few (NotClosed o format) h =
    (open_is_few shelf.told request.files h.wanted.placings.now h.wanted.grid o format few h.cause, h.cause.is_fault.is_fault.0.step)
stop_is_shown request shelf few (ExprRefused fault) h = tt
stop_is_shown request shelf few Unbounded h = tt
stop_is_shown request shelf few (LongFile i) h = tt
stop_is_shown request shelf few (TooManyTriangles count) h = tt
stop_is_shown request shelf few TooManyWritten h = tt
stop_is_shown request shelf few (StepTooSmall extent) h = least_is_shown shelf.told request.files h.wanted.placings.now h.wanted.grid extent h.cause
stop_is_shown request shelf few TooFar h = tt
stop_is_shown request shelf few (DocumentRefused fault) h = tt
stop_is_shown request shelf few OutOfMemory h = tt
stop_is_shown request shelf few (Uncertified fault) h = tt

-- so can it of meshes that aren't put on their grid
pub snap_stop_is_shown : (request : SnapRequest) (shelf : ShelfCall) → length request.files ≤ 64 → (status : Status) →
    IsSnapStop request shelf status → IsShown status
snap_stop_is_shown request shelf few Done h = tt
snap_stop_is_shown request shelf few (Words refusal) h = tt
snap_stop_is_shown request shelf few StepOfNoGrid h = tt
snap_stop_is_shown request shelf few (ReadFault i kind) h = tt
snap_stop_is_shown request shelf few WriteFault h = tt
snap_stop_is_shown request shelf few (NotWritten file) h = tt
snap_stop_is_shown request shelf few (FileRefused i reason) h = tt
snap_stop_is_shown request shelf few NoTriangles h = tt
snap_stop_is_shown request shelf few NotAScene h = tt
snap_stop_is_shown request shelf few (NotClosed o format) h =
    (open_is_few shelf.told request.files [] h.wanted o format few h.cause, h.cause.is_fault.is_fault.0.step)
snap_stop_is_shown request shelf few (ExprRefused fault) h = tt
snap_stop_is_shown request shelf few Unbounded h = tt
snap_stop_is_shown request shelf few (LongFile i) h = tt
snap_stop_is_shown request shelf few (TooManyTriangles count) h = tt
snap_stop_is_shown request shelf few TooManyWritten h = tt
snap_stop_is_shown request shelf few (StepTooSmall extent) h = least_is_shown shelf.told request.files [] h.wanted extent h.cause
snap_stop_is_shown request shelf few TooFar h = tt
snap_stop_is_shown request shelf few (DocumentRefused fault) h = tt
snap_stop_is_shown request shelf few OutOfMemory h = tt
snap_stop_is_shown request shelf few (Uncertified fault) h = tt

-- so can the step of an output
pub output_step_is_shown : (request : Request) (told : List ℕ → Option (List ℕ)) (output : SolidFile) →
    IsOutputFor request told output → IsStep output.grid.step
output_step_is_shown request told output h = h.of_files.is_output.are_placed.on_grid.step

-- and of meshes on their grid
pub placed_step_is_shown : (request : SnapRequest) (told : List ℕ → Option (List ℕ)) (placed : PlacedScene) →
    IsPlacedFor request told placed → IsStep placed.grid.step
placed_step_is_shown request told placed h = h.of_files.is_placed.are_placed.on_grid.step
