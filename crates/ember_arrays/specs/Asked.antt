-- What is asked for of meshes in arrays, before any of them is looked at
use Rattle.std.specs.Prelude.{◌≡◌, ℕ, ◌+◌, ◌<◌, ◌≤◌, List, All, IfSome, Some, length, slice_get, take}
use Rattle.ember_expr.specs.Formula.{Formula}
use Rattle.mesh_arrays.specs.Arrays.{IsShort}
use Rattle.mesh_arrays.specs.declared.mesh.ArrayMesh.{ArrayMesh}
use Rattle.mesh_grid.specs.declared.grid.choice.Wanted.{Wanted}
use Rattle.mesh_refusal.specs.declared.status.Status.{Status}
use Rattle.mesh_refusal.specs.declared.status.Status.TheVariants.{LongFile, StepOfNoGrid, Words}
use Rattle.mesh_run.specs.Asked.{IsExpression, IsExpressionCause, IsStepOfNoGrid, IsWanted}
use Rattle.mesh_words.specs.declared.command.WantedStep.{WantedStep}
use Rattle.mesh_words.specs.declared.faults.Refusal.{Refusal}
use Rattle.mesh_words.specs.declared.faults.Refusal.TheVariants.{Digits, NoFiles, TooManyFiles}
use Rattle.ember_arrays.specs.declared.asked.ArrayRequest.{ArrayRequest}

-- the mesh with this number, from 1, is the first of more than 2^28 bytes
pub record IsFirstLong (meshes : List ArrayMesh) (number : ℕ) : Type 0 where
  pub index : ℕ
  pub number_is : number ≡ index + 1
  pub mesh : ArrayMesh
  pub found : slice_get meshes index ≡ Some mesh
  pub long : ¬ (IsShort mesh)
  pub before : All IsShort (take index meshes)

-- there are no meshes, or more than 64; or more than 17 decimal places are asked for
abbrev pub IsLimitCause : ArrayRequest → Refusal → Type 0
IsLimitCause request NoFiles = length request.meshes.now ≡ 0
IsLimitCause request TooManyFiles = 64 < length request.meshes.now
IsLimitCause request Digits = (n : ℕ) × (request.digits ≡ Some n) × (17 < n)
IsLimitCause request why = ⊥

-- the limits are kept, the step is wanted, and the expression has this tree and is false outside all meshes
pub record Asks (request : ArrayRequest) (step : WantedStep) (wanted : Wanted) (formula : Formula) : Type 0 where
  pub few : length request.meshes.now ≤ 64
  pub digits : IfSome request.digits (λ n. n ≤ 17)
  pub step_is : IsWanted step wanted
  pub expression : IsExpression request.expression.now (length request.meshes.now) formula
  pub short : All IsShort request.meshes.now

-- why nothing is asked for that can be computed
abbrev pub IsAskingCause : ArrayRequest → WantedStep → Status → Type 0
IsAskingCause request step (Words why) = IsLimitCause request why
IsAskingCause request step StepOfNoGrid = IsStepOfNoGrid step
IsAskingCause request step (LongFile number) = IsFirstLong request.meshes.now number
IsAskingCause request step status = IsExpressionCause request.expression.now (length request.meshes.now) status
