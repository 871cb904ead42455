-- The statuses and lines of meshes in arrays
use Rattle.std.specs.Prelude.{◌≡◌, ◌⊎◌, ⊤, ℕ, zero, suc, ◌+◌, ◌<◌, false, List, [], ◌∷◌, ◌++◌, None, Option, String}
use Rattle.std.specs.Prelude.{codes, decimal, string_bytes}
use Rattle.std.specs.declared.alloc.Global.{Global}
use Rattle.mesh_boolean.specs.declared.fault.BooleanFault.{BooleanFault}
use Rattle.mesh_boolean.specs.declared.fault.BooleanFault.TheVariants as boolean
use Rattle.mesh_file.specs.File.Faults.{fault_of}
use Rattle.mesh_file.specs.File.Reasons.{reason_of}
use Rattle.mesh_file.specs.declared.file.fault.FileFault.{FileFault}
use Rattle.mesh_file.specs.declared.format.format.Format.TheVariants.{Ply}
use Rattle.mesh_texts.specs.Texts.{line}
use Rattle.mesh_refusal.specs.Lines.{why_of}
use Rattle.mesh_refusal.specs.WordLines.{refusal_text}
use Rattle.mesh_refusal.specs.declared.status.Status.{Status}
use Rattle.mesh_refusal.specs.declared.status.Status.TheVariants.{FileRefused, NoTriangles, NotClosed, OutOfMemory}
use Rattle.mesh_refusal.specs.declared.status.Status.TheVariants.{StepTooSmall, TooFar, TooManyTriangles}
use Rattle.mesh_refusal.specs.declared.status.Status.TheVariants.{TooManyWritten, Uncertified, Words}
use Rattle.mesh_scene.specs.declared.scene.fault.SceneFault.TheVariants as scene
use Rattle.mesh_words.specs.declared.command.Destination.TheVariants.{StandardOutput}
use Rattle.mesh_words.specs.declared.command.OutputFormat.TheVariants.{Off}
use Rattle.mesh_words.specs.declared.command.Request.{Request}
use Rattle.mesh_words.specs.declared.command.WantedStep.{WantedStep}

-- ---- faults
-- the mesh that a fault names is one of so many; none is placed
abbrev pub NamesMesh : ℕ → BooleanFault → Type 0
NamesMesh count (boolean.File index fault) = index < count
NamesMesh count (boolean.Image index fault) = ⊥
NamesMesh count (boolean.Scene (scene.Open o)) = o.file < count
NamesMesh count fault = ⊤

-- ---- statuses
-- the reason of a mesh is made, or there is no memory for it
abbrev pub IsRefusalStatus : ℕ → FileFault → Status → Type 0
IsRefusalStatus index fault status =
    ((reason : String Global) × (status ≡ FileRefused (index + 1) reason) ×
    (string_bytes reason ≡ reason_of [] (fault_of fault))) ⊎ (status ≡ OutOfMemory)

-- the status of meshes with this fault: that of PLY files
abbrev pub IsStatusOf : BooleanFault → Status → Type 0
IsStatusOf (boolean.File index fault) status = IsRefusalStatus index fault status
IsStatusOf (boolean.Image index fault) status = ⊥
IsStatusOf (boolean.Scene scene.NoTriangles) status = status ≡ NoTriangles
IsStatusOf (boolean.Scene (scene.StepTooSmall extent)) status = status ≡ StepTooSmall extent
IsStatusOf (boolean.Scene (scene.Open o)) status = status ≡ NotClosed o Ply
IsStatusOf (boolean.Scene (scene.TooManyTriangles count)) status = status ≡ TooManyTriangles count
IsStatusOf (boolean.Scene scene.OutOfMemory) status = status ≡ OutOfMemory
IsStatusOf (boolean.Solid fault) status = status ≡ Uncertified fault
IsStatusOf boolean.TooFar status = status ≡ TooFar
IsStatusOf boolean.TooManyTriangles status = status ≡ TooManyWritten
IsStatusOf boolean.OutOfMemory status = status ≡ OutOfMemory

-- ---- names
abbrev pub name_of : ℕ → List ℕ
name_of number = codes "mesh " ++ decimal number

-- the names of so many meshes
abbrev pub names_to : ℕ → List (List ℕ)
names_to zero = []
names_to (suc count) = names_to count ++ name_of (count + 1) ∷ []

-- ---- lines
-- the request of ember-mesh over so many files, as its lines see it
abbrev pub request_with : ℕ → WantedStep → Option ℕ → Request
request_with count step digits = record {
  expression = [];
  output = StandardOutput;
  format = Off;
  step = step;
  workers = 1;
  quiet = false;
  digits = digits;
  files = names_to count;
  view = None;
  keep = None;
  places = [];
  turns = [];
}

-- the line of a status
abbrev pub status_text : Request → Status → List ℕ
status_text request (Words why) = line (refusal_text [] why)
status_text request status = line (why_of request status)
