-- The statuses of requests that give no solid: they name a mesh, can be shown, and have a number that isn't 0
use Rattle.std.proofs.Common.{◌≡◌, ◌<◌, ◌≤◌, ◌-◌, ◌+◌, ℕ, List, length, sym, ap, ◌∙◌, subst, arith, inl, inr}
use Rattle.std.proofs.lemmas.Option.{slice_get_within}
use Rattle.std.specs.declared.option.Option.{Option}
use Rattle.ember_expr.specs.Formula.{Formula}
use Rattle.mesh_arrays.specs.declared.mesh.ArrayMesh.{ArrayMesh}
use Rattle.mesh_boolean.specs.declared.fault.BooleanFault.{BooleanFault}
use Rattle.mesh_boolean.specs.declared.fault.BooleanFault.TheVariants as boolean
use Rattle.mesh_file.specs.declared.file.fault.FileFault.{FileFault}
use Rattle.mesh_file.specs.declared.file.fault.FileFault.TheVariants as file
use Rattle.mesh_file.specs.declared.format.format.Format.TheVariants.{Ply}
use Rattle.mesh_grid.specs.declared.grid.choice.Wanted.{Wanted}
use Rattle.mesh_grid.specs.declared.grid.extent.SceneExtent.{SceneExtent}
use Rattle.mesh_grid.specs.declared.snap.steps.GridStep.{GridStep}
use Rattle.mesh_grid.specs.Snap.Steps.{fine_decade}
use Rattle.mesh_number.proofs.DigitNumbers.{pow_ten_pos}
use Rattle.mesh_refusal.specs.Lines.{IsShown}
use Rattle.mesh_refusal.specs.Numbers.{number_of}
use Rattle.mesh_refusal.specs.declared.status.Status.{Status}
use Rattle.mesh_refusal.specs.declared.status.Status.TheVariants.{Done, Words, StepOfNoGrid, ReadFault, WriteFault}
use Rattle.mesh_refusal.specs.declared.status.Status.TheVariants.{NotWritten, FileRefused, NoTriangles, NotAScene}
use Rattle.mesh_refusal.specs.declared.status.Status.TheVariants.{NotClosed, ExprRefused, Unbounded, LongFile}
use Rattle.mesh_refusal.specs.declared.status.Status.TheVariants.{TooManyTriangles, TooManyWritten, StepTooSmall}
use Rattle.mesh_refusal.specs.declared.status.Status.TheVariants.{TooFar, DocumentRefused, OutOfMemory, Uncertified}
use Rattle.mesh_scene.specs.declared.scene.fault.Open.{Open}
use Rattle.mesh_scene.specs.declared.scene.fault.SceneFault.TheVariants as scene
use Rattle.mesh_words.specs.declared.command.WantedStep.{WantedStep}
use Rattle.ember_arrays.specs.declared.asked.ArrayRequest.{ArrayRequest}
use Rattle.ember_arrays.specs.Asked.{IsAskingCause}
use Rattle.ember_arrays.specs.Faults.{AreNoScene, IsArrayFault, IsRefused}
use Rattle.ember_arrays.specs.Lines.{IsStatusOf, NamesMesh}
use Rattle.ember_arrays.specs.Outcomes.{IsArrayStop}
use Rattle.ember_arrays.proofs.InOrder.{surfaces_are_as_many}

-- ---- the mesh that a fault names
refused_mesh_is_there : (meshes : List ArrayMesh) (index : ℕ) (fault : FileFault) → length meshes ≤ 64 → IsRefused meshes index fault → index < 64
refused_mesh_is_there meshes index (file.CutOff facets) few h = absurd h
refused_mesh_is_there meshes index (file.Stl fault) few h = absurd h
refused_mesh_is_there meshes index (file.Ply fault) few h =
    let inside = slice_get_within meshes index h.mesh h.found in omega (arith, few, inside)
refused_mesh_is_there meshes index (file.Gltf fault) few h = absurd h
refused_mesh_is_there meshes index (file.Off fault) few h = absurd h
refused_mesh_is_there meshes index (file.Wavefront fault) few h = absurd h
refused_mesh_is_there meshes index (file.Unread format) few h = absurd h
refused_mesh_is_there meshes index file.OutOfMemory few h = absurd h

open_mesh_is_there : (meshes : List ArrayMesh) (wanted : Wanted) (o : Open) → length meshes ≤ 64 →
    AreNoScene meshes wanted (scene.Open o) → o.file < 64
open_mesh_is_there meshes wanted o few h =
    let inside = slice_get_within h.surfaces o.file h.is_fault.1.surface h.is_fault.1.found in
    let as_many = surfaces_are_as_many meshes h.surfaces h.are in
    omega (arith, few, inside, as_many)

-- is one of them
pub named_mesh_is_there : (meshes : List ArrayMesh) (formula : Formula) (wanted : Wanted) (digits : Option ℕ) (fault : BooleanFault) →
    length meshes ≤ 64 → IsArrayFault meshes formula wanted digits fault → NamesMesh 64 fault
named_mesh_is_there meshes formula wanted digits (boolean.File index fault) few h = refused_mesh_is_there meshes index fault few h
named_mesh_is_there meshes formula wanted digits (boolean.Image index fault) few h = absurd h
named_mesh_is_there meshes formula wanted digits (boolean.Scene scene.NoTriangles) few h = tt
named_mesh_is_there meshes formula wanted digits (boolean.Scene (scene.StepTooSmall extent)) few h = tt
named_mesh_is_there meshes formula wanted digits (boolean.Scene (scene.Open o)) few h = open_mesh_is_there meshes wanted o few h
named_mesh_is_there meshes formula wanted digits (boolean.Scene (scene.TooManyTriangles count)) few h = tt
named_mesh_is_there meshes formula wanted digits (boolean.Scene scene.OutOfMemory) few h = tt
named_mesh_is_there meshes formula wanted digits (boolean.Solid fault) few h = tt
named_mesh_is_there meshes formula wanted digits boolean.TooFar few h = tt
named_mesh_is_there meshes formula wanted digits boolean.TooManyTriangles few h = tt
named_mesh_is_there meshes formula wanted digits boolean.OutOfMemory few h = tt

-- ---- statuses that can be shown
-- why nothing is asked for that can be computed
pub asking_cause_is_shown : (request : ArrayRequest) (step : WantedStep) (status : Status) → IsAskingCause request step status → IsShown status
asking_cause_is_shown request step Done h = tt
asking_cause_is_shown request step (Words why) h = tt
asking_cause_is_shown request step StepOfNoGrid h = tt
asking_cause_is_shown request step (ReadFault i kind) h = tt
asking_cause_is_shown request step WriteFault h = tt
asking_cause_is_shown request step (NotWritten name) h = tt
asking_cause_is_shown request step (FileRefused i reason) h = tt
asking_cause_is_shown request step NoTriangles h = tt
asking_cause_is_shown request step NotAScene h = tt
asking_cause_is_shown request step (NotClosed o format) h = absurd h
asking_cause_is_shown request step (ExprRefused fault) h = tt
asking_cause_is_shown request step Unbounded h = tt
asking_cause_is_shown request step (LongFile i) h = tt
asking_cause_is_shown request step (TooManyTriangles count) h = tt
asking_cause_is_shown request step TooManyWritten h = tt
asking_cause_is_shown request step (StepTooSmall extent) h = absurd h
asking_cause_is_shown request step TooFar h = tt
asking_cause_is_shown request step (DocumentRefused fault) h = tt
asking_cause_is_shown request step OutOfMemory h = tt
asking_cause_is_shown request step (Uncertified fault) h = tt

-- a status that is this one
shown_along : (status given : Status) → status ≡ given → IsShown given → IsShown status
shown_along status given e h = subst IsShown (sym e) h

-- the step that would do is above 0
least_step_is_shown : (meshes : List ArrayMesh) (wanted : Wanted) (extent : SceneExtent) → AreNoScene meshes wanted (scene.StepTooSmall extent) →
    0 < extent.finest.denominator
least_step_is_shown meshes wanted extent h =
    let least = h.is_fault.2.is_extent.least in
    subst (λ (s : GridStep). 0 < s.denominator) (sym least.step) (pow_ten_pos (12 - fine_decade least.rank))

-- that of a fault of the meshes
pub fault_status_is_shown : (meshes : List ArrayMesh) (formula : Formula) (wanted : Wanted) (digits : Option ℕ) (fault : BooleanFault)
    (status : Status) → length meshes ≤ 64 → IsArrayFault meshes formula wanted digits fault → IsStatusOf fault status → IsShown status
fault_status_is_shown meshes formula wanted digits (boolean.File index fault) status few h (inl (reason, e, why)) =
    shown_along status (FileRefused (index + 1) reason) e tt
fault_status_is_shown meshes formula wanted digits (boolean.File index fault) status few h (inr e) = shown_along status OutOfMemory e tt
fault_status_is_shown meshes formula wanted digits (boolean.Image index fault) status few h e = absurd h
fault_status_is_shown meshes formula wanted digits (boolean.Scene scene.NoTriangles) status few h e = shown_along status NoTriangles e tt
fault_status_is_shown meshes formula wanted digits (boolean.Scene (scene.StepTooSmall extent)) status few h e =
    shown_along status (StepTooSmall extent) e (least_step_is_shown meshes wanted extent h)
fault_status_is_shown meshes formula wanted digits (boolean.Scene (scene.Open o)) status few h e =
    shown_along status (NotClosed o Ply) e (open_mesh_is_there meshes wanted o few h, h.is_fault.0.step)
fault_status_is_shown meshes formula wanted digits (boolean.Scene (scene.TooManyTriangles count)) status few h e =
    shown_along status (TooManyTriangles count) e tt
fault_status_is_shown meshes formula wanted digits (boolean.Scene scene.OutOfMemory) status few h e = shown_along status OutOfMemory e tt
fault_status_is_shown meshes formula wanted digits (boolean.Solid fault) status few h e = shown_along status (Uncertified fault) e tt
fault_status_is_shown meshes formula wanted digits boolean.TooFar status few h e = shown_along status TooFar e tt
fault_status_is_shown meshes formula wanted digits boolean.TooManyTriangles status few h e = shown_along status TooManyWritten e tt
fault_status_is_shown meshes formula wanted digits boolean.OutOfMemory status few h e = shown_along status OutOfMemory e tt

-- ---- numbers of statuses
number_along : (status given : Status) → status ≡ given → number_of status ≡ 0 → number_of given ≡ 0
number_along status given e is_zero = sym (ap number_of e) ∙ is_zero

asking_cause_has_number : (request : ArrayRequest) (step : WantedStep) (status : Status) → IsAskingCause request step status →
    number_of status ≡ 0 → ⊥
asking_cause_has_number request step Done h e = h
asking_cause_has_number request step (Words why) h e = cc
asking_cause_has_number request step StepOfNoGrid h e = cc
asking_cause_has_number request step (ReadFault i kind) h e = cc
asking_cause_has_number request step WriteFault h e = cc
asking_cause_has_number request step (NotWritten name) h e = cc
asking_cause_has_number request step (FileRefused i reason) h e = cc
asking_cause_has_number request step NoTriangles h e = cc
asking_cause_has_number request step NotAScene h e = cc
asking_cause_has_number request step (NotClosed o format) h e = cc
asking_cause_has_number request step (ExprRefused fault) h e = cc
asking_cause_has_number request step Unbounded h e = cc
asking_cause_has_number request step (LongFile i) h e = cc
asking_cause_has_number request step (TooManyTriangles count) h e = cc
asking_cause_has_number request step TooManyWritten h e = cc
asking_cause_has_number request step (StepTooSmall extent) h e = cc
asking_cause_has_number request step TooFar h e = cc
asking_cause_has_number request step (DocumentRefused fault) h e = h
asking_cause_has_number request step OutOfMemory h e = cc
asking_cause_has_number request step (Uncertified fault) h e = cc

fault_status_has_number : (fault : BooleanFault) (status : Status) → IsStatusOf fault status → number_of status ≡ 0 → ⊥
fault_status_has_number (boolean.File index fault) status (inl (reason, e, why)) is_zero =
    let n = number_along status (FileRefused (index + 1) reason) e is_zero in cc
fault_status_has_number (boolean.File index fault) status (inr e) is_zero = let n = number_along status OutOfMemory e is_zero in cc
fault_status_has_number (boolean.Image index fault) status e is_zero = absurd e
fault_status_has_number (boolean.Scene scene.NoTriangles) status e is_zero = let n = number_along status NoTriangles e is_zero in cc
fault_status_has_number (boolean.Scene (scene.StepTooSmall extent)) status e is_zero =
    let n = number_along status (StepTooSmall extent) e is_zero in cc
fault_status_has_number (boolean.Scene (scene.Open o)) status e is_zero = let n = number_along status (NotClosed o Ply) e is_zero in cc
fault_status_has_number (boolean.Scene (scene.TooManyTriangles count)) status e is_zero =
    let n = number_along status (TooManyTriangles count) e is_zero in cc
fault_status_has_number (boolean.Scene scene.OutOfMemory) status e is_zero = let n = number_along status OutOfMemory e is_zero in cc
fault_status_has_number (boolean.Solid fault) status e is_zero = let n = number_along status (Uncertified fault) e is_zero in cc
fault_status_has_number boolean.TooFar status e is_zero = let n = number_along status TooFar e is_zero in cc
fault_status_has_number boolean.TooManyTriangles status e is_zero = let n = number_along status TooManyWritten e is_zero in cc
fault_status_has_number boolean.OutOfMemory status e is_zero = let n = number_along status OutOfMemory e is_zero in cc

-- why there is no solid has a number that isn't 0
pub stop_has_number : (request : ArrayRequest) (step : WantedStep) (status : Status) (place : ℕ) → IsArrayStop request step status place →
    number_of status ≡ 0 → ⊥
stop_has_number request step status place (inl (none, cause)) is_zero = asking_cause_has_number request step status cause is_zero
stop_has_number request step status place (inr unmade) is_zero = fault_status_has_number unmade.fault status unmade.status_is is_zero
