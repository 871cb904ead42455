-- What a struct for C says of a Boolean over arrays. Of a block it says how long it is, and not what is there
use Rattle.std.specs.Prelude.{◌≡◌, ◌⊎◌, ℕ, zero, suc, ℤ, ◌-◌, ◌/◌, ◌%◌, ◌^◌, ◌==◌, Bool, List, [], ◌∷◌}
use Rattle.std.specs.Prelude.{None, Some, Option, codes, if◌then◌else◌, length}
use Rattle.std.specs.Int.{cast_unsigned, w128}
use Rattle.std.specs.Str.{IsUtf8}
use Rattle.ember_arrays.specs.Outcomes.{IsArrayOutcome}
use Rattle.ember_arrays.specs.declared.asked.ArrayRequest.{ArrayRequest}
use Rattle.ember_arrays.specs.declared.outcome.ArrayOutcome.{ArrayOutcome}
use Rattle.ember_arrays.specs.declared.solid.ArraySolid.{ArraySolid}
use Rattle.mesh_arrays.specs.declared.mesh.ArrayMesh.{ArrayMesh}
use Rattle.mesh_boolean.specs.declared.output.SolidFile.{SolidFile}
use Rattle.mesh_words.specs.declared.command.WantedStep.{WantedStep}
use Rattle.mesh_words.specs.declared.command.WantedStep.TheVariants.{Nice, Finest, Decimal}
use Rattle.ember_c.specs.declared.solid.Numbers.{Numbers}
use Rattle.ember_c.specs.declared.solid.Solid.{Solid}

-- ---- what comes in
-- the step of these bytes
abbrev pub IsStepText : List ℕ → WantedStep → Type 0
IsStepText bytes Nice = (bytes ≡ []) ⊎ (bytes ≡ codes "nice")
IsStepText bytes Finest = bytes ≡ codes "finest"
IsStepText bytes (Decimal text) = text ≡ bytes

-- the decimal places of this number; the greatest of 32 bits stands for none
abbrev pub digits_of : ℕ → Option ℕ
digits_of digits = if digits == 2 ^ 32 - 1 then None else Some digits

-- the lowest bit of these wants asks for sources
abbrev pub wants_sources : ℕ → Bool
wants_sources wants = wants % 2 == 1

-- these meshes and this expression
pub record IsRequestOf (meshes : List ArrayMesh) (expression : List ℕ) (digits wants : ℕ) (request : ArrayRequest) :
    Type 0 where
  pub meshes_are : request.meshes.now ≡ meshes
  pub expression_is : request.expression.now ≡ expression
  pub digits_are : request.digits ≡ digits_of digits
  pub sources_are : request.wants_sources ≡ wants_sources wants

-- ---- what comes out
-- the two words of 64 bits of a number of 128, the low one first
abbrev pub two_words : ℤ → List ℕ
two_words number = let bits = cast_unsigned w128 number in bits % 2 ^ 64 ∷ bits / 2 ^ 64 ∷ []

-- a place from 1 as one from 0; the greatest number of 64 bits stands for none
abbrev pub place_from_zero : ℕ → ℕ
place_from_zero zero = 2 ^ 64 - 1
place_from_zero (suc place) = place

abbrev pub bit_of : Bool → ℕ
bit_of b = if b then 1 else 0

-- the grid of a solid, and the numbers of its mesh
pub record HasNumbers (file : SolidFile) (numbers : Numbers) : Type 0 where
  pub step : numbers.step ≡ file.grid.step.numerator ∷ file.grid.step.denominator ∷ []
  pub offset : numbers.offset ≡
      two_words file.grid.offset.x ∷ two_words file.grid.offset.y ∷ two_words file.grid.offset.z ∷ []
  pub faces : numbers.faces ≡ file.written.faces
  pub planes : numbers.planes ≡ file.written.planes
  pub vanished : numbers.vanished ≡ file.written.vanished
  pub shared : numbers.shared ≡ file.written.shared
  pub flat : numbers.flat ≡ file.written.effect.facings.without_area
  pub turned : numbers.turned ≡ file.written.effect.facings.turned_over
  pub manifold : numbers.is_manifold ≡ bit_of file.written.is_manifold

-- the arrays are as long as those of this solid
pub record HasArraysOf (found : ArraySolid) (solid : Solid) : Type 0 where
  pub vertices : solid.vertex_count ≡ length found.vertices.items
  pub triangles : solid.triangle_count ≡ length found.triangles.items
  pub numbers : HasNumbers found.file solid.numbers

-- there are no arrays
pub record HasNoArrays (solid : Solid) : Type 0 where
  pub vertices : solid.vertex_count ≡ 0
  pub triangles : solid.triangle_count ≡ 0

abbrev pub HasArraysIf : Option ArraySolid → Solid → Type 0
HasArraysIf None solid = HasNoArrays solid
HasArraysIf (Some found) solid = HasArraysOf found solid

-- the solid of an outcome
pub record IsSolidOf (outcome : ArrayOutcome) (solid : Solid) : Type 0 where
  pub status : solid.status ≡ outcome.status
  pub mesh : solid.mesh ≡ outcome.mesh
  pub place : solid.place ≡ place_from_zero outcome.place
  pub line : solid.line.len ≡ length outcome.line.items
  pub arrays : HasArraysIf outcome.solid solid

-- there is nothing but a status
pub record HasNoSolid (status : ℕ) (solid : Solid) : Type 0 where
  pub is_status : solid.status ≡ status
  pub mesh : solid.mesh ≡ 0
  pub place : solid.place ≡ 2 ^ 64 - 1
  pub line : solid.line.len ≡ 0
  pub none : HasNoArrays solid

-- the answer to a call over these arrays
pub record IsCallOf (meshes : List ArrayMesh) (expression step : List ℕ) (digits wants : ℕ) (solid : Solid) :
    Type 0 where
  pub request : ArrayRequest
  pub is_request : IsRequestOf meshes expression digits wants request
  pub wanted : WantedStep
  pub is_step : IsStepText step wanted
  pub outcome : ArrayOutcome
  pub is_outcome : IsArrayOutcome request wanted outcome
  pub is_solid : IsSolidOf outcome solid

abbrev pub AnswersArrays : List ArrayMesh → List ℕ → List ℕ → ℕ → ℕ → Solid → Type 0
AnswersArrays meshes expression step digits wants solid = IsCallOf meshes expression step digits wants solid
    ⊎ ((HasNoSolid 13 solid × ¬ (IsUtf8 step)) ⊎ HasNoSolid 12 solid)
