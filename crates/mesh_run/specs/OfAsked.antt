-- The output that is asked for, and why there is none
use Rattle.std.specs.Prelude.{ℕ, List}
use Rattle.ember_expr.specs.Formula.{formula_of}
use Rattle.ember_io.specs.Shelves.{Told}
use Rattle.mesh_boolean.specs.declared.output.SolidFile.{SolidFile}
use Rattle.mesh_refusal.specs.declared.status.Status.{Status}
use Rattle.mesh_run.specs.declared.asked.Asked.{Asked}
use Rattle.mesh_run.specs.Causes.{IsFilesCause}
use Rattle.mesh_run.specs.Outputs.{IsFilesOutput}

-- the output is what is asked for of the files with these names
abbrev pub IsOutputAsked : Asked → Told → List (List ℕ) → SolidFile → Type 0
IsOutputAsked asked told names output = IsFilesOutput told names (formula_of asked.expr) asked.wanted output

-- why it has none
abbrev pub IsCauseAsked : Asked → Told → List (List ℕ) → Status → Type 0
IsCauseAsked asked told names status = IsFilesCause told names (formula_of asked.expr) asked.wanted status
