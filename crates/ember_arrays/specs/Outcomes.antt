-- What a call over arrays gives
use Rattle.std.specs.Prelude.{◌≡◌, ◌≢◌, ◌⊎◌, ◌+◌, ◌-◌, ◌^◌, ℕ, List, [], None, Some, length, min}
use Rattle.ember_expr.specs.Formula.{Formula}
use Rattle.mesh_boolean.specs.declared.fault.BooleanFault.{BooleanFault}
use Rattle.mesh_boolean.specs.declared.fault.BooleanFault.TheVariants.{File, Scene}
use Rattle.mesh_file.specs.declared.file.fault.FileFault.{FileFault}
use Rattle.mesh_file.specs.declared.file.fault.FileFault.TheVariants as file_fault
use Rattle.mesh_grid.specs.declared.grid.choice.Wanted.{Wanted}
use Rattle.mesh_ply.specs.declared.fault.PlyFault.{PlyFault}
use Rattle.mesh_ply.specs.declared.fault.PlyFault.TheVariants.{NoSuchVertex, NotFinite, TooLarge}
use Rattle.mesh_refusal.specs.Numbers.{number_of}
use Rattle.mesh_report.specs.Reports.{report_of}
use Rattle.mesh_refusal.specs.declared.status.Status.{Status}
use Rattle.mesh_refusal.specs.declared.status.Status.TheVariants.{Done, FileRefused, LongFile, NotClosed}
use Rattle.mesh_scene.specs.declared.scene.fault.SceneFault.TheVariants.{Open}
use Rattle.mesh_words.specs.declared.command.Request.{Request}
use Rattle.mesh_words.specs.declared.command.WantedStep.{WantedStep}
use Rattle.ember_arrays.specs.Asked.{Asks, IsAskingCause}
use Rattle.ember_arrays.specs.Faults.{IsArrayFault}
use Rattle.ember_arrays.specs.Lines.{IsStatusOf, request_with, status_text}
use Rattle.ember_arrays.specs.Solids.{IsArraySolid, MeansFormula}
use Rattle.ember_arrays.specs.declared.asked.ArrayRequest.{ArrayRequest}
use Rattle.ember_arrays.specs.declared.outcome.ArrayOutcome.{ArrayOutcome}
use Rattle.ember_arrays.specs.declared.solid.ArraySolid.{ArraySolid}

-- ---- the place of a fault
-- the mesh at fault, from 1; 0 if none is known to be
abbrev pub mesh_of : Status → ℕ
mesh_of (FileRefused number reason) = number
mesh_of (LongFile number) = number
mesh_of (NotClosed hole format) = min (hole.file + 1) (2 ^ 32 - 1)
mesh_of _ = 0

abbrev pub place_in : PlyFault → ℕ
place_in (NotFinite place) = place
place_in (NoSuchVertex place) = place
place_in (TooLarge place) = place
place_in _ = 0

abbrev pub place_in_file : FileFault → ℕ
place_in_file (file_fault.Ply fault) = place_in fault
place_in_file _ = 0

-- its vertex or its triangle at fault, from 1; 0 if none is known
abbrev pub place_of : BooleanFault → ℕ
place_of (File index fault) = place_in_file fault
place_of (Scene (Open hole)) = hole.place
place_of _ = 0

-- ---- the solid
-- the solid is what the request asks for, and means it
pub record IsSolidFor (request : ArrayRequest) (step : WantedStep) (solid : ArraySolid) : Type 0 where
  pub wanted : Wanted
  pub formula : Formula
  pub asks : Asks request step wanted formula
  pub is : IsArraySolid request.meshes.now formula wanted request.digits request.wants_sources solid
  pub means : MeansFormula request.meshes.now formula wanted request.digits request.wants_sources solid is

-- the request asks for a solid, but there is none for this fault, of which this is the status and the place
pub record IsUnmade (request : ArrayRequest) (step : WantedStep) (status : Status) (place : ℕ) : Type 0 where
  pub wanted : Wanted
  pub formula : Formula
  pub asks : Asks request step wanted formula
  pub fault : BooleanFault
  pub is_fault : IsArrayFault request.meshes.now formula wanted request.digits fault
  pub status_is : IsStatusOf fault status
  pub place_is : place ≡ place_of fault

-- why there is no solid
abbrev pub IsArrayStop : ArrayRequest → WantedStep → Status → ℕ → Type 0
IsArrayStop request step status place =
    ((place ≡ 0) × IsAskingCause request step status) ⊎ IsUnmade request step status place

-- ---- outcomes
-- there was no memory for what the call gives
pub record IsNothing (outcome : ArrayOutcome) : Type 0 where
  pub status : outcome.status ≡ 12
  pub mesh : outcome.mesh ≡ 0
  pub place : outcome.place ≡ 0
  pub line : outcome.line.items ≡ []
  pub solid : outcome.solid ≡ None

-- the outcome of a solid: its report
pub record IsReported (words : Request) (solid : ArraySolid) (outcome : ArrayOutcome) : Type 0 where
  pub there : outcome.solid ≡ Some solid
  pub status : outcome.status ≡ 0
  pub mesh : outcome.mesh ≡ 0
  pub place : outcome.place ≡ 0
  pub report : outcome.line.items ≡ report_of words solid.file

abbrev pub IsReportedWith : Request → ArraySolid → ArrayOutcome → Type 0
IsReportedWith words solid outcome = IsReported words solid outcome ⊎ IsNothing outcome

-- the outcome of a status: its line, and no solid
pub record IsRefusal (words : Request) (status : Status) (place : ℕ) (outcome : ArrayOutcome) : Type 0 where
  pub number : outcome.status ≡ number_of status
  pub mesh : outcome.mesh ≡ mesh_of status
  pub place_is : outcome.place ≡ place
  pub line : outcome.line.items ≡ status_text words status
  pub none : outcome.solid ≡ None

abbrev pub IsRefusalWith : Request → Status → ℕ → ArrayOutcome → Type 0
IsRefusalWith words status place outcome = IsRefusal words status place outcome ⊎ IsNothing outcome

-- the request of ember-mesh that asks for the same
abbrev pub words_of : ArrayRequest → WantedStep → Request
words_of request step = request_with (min (length request.meshes.now) 64) step request.digits

-- there is the solid that is asked for, and its report
pub record HasSolid (request : ArrayRequest) (step : WantedStep) (outcome : ArrayOutcome) : Type 0 where
  pub solid : ArraySolid
  pub there : outcome.solid ≡ Some solid
  pub is : IsSolidFor request step solid
  pub status : outcome.status ≡ 0
  pub mesh : outcome.mesh ≡ 0
  pub place : outcome.place ≡ 0
  pub report : outcome.line.items ≡ report_of (words_of request step) solid.file

-- it says why there is none
pub record HasNone (request : ArrayRequest) (step : WantedStep) (outcome : ArrayOutcome) : Type 0 where
  pub status : Status
  pub place : ℕ
  pub not_done : status ≢ Done
  pub stop : IsArrayStop request step status place
  pub refusal : IsRefusal (words_of request step) status place outcome

-- the outcome of a request
abbrev pub IsArrayOutcome : ArrayRequest → WantedStep → ArrayOutcome → Type 0
IsArrayOutcome request step outcome = HasSolid request step outcome ⊎ (HasNone request step outcome ⊎ IsNothing outcome)
