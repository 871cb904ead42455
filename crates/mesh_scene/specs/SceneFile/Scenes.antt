-- The grid that a scene file has
use Rattle.std.specs.Prelude.{◌≡◌, ⊤, ℕ, ℤ, List, codes, Option, Some, None, option_and_then}
use Rattle.std.specs.Str.{IsUtf8}
use Rattle.serde_json.specs.Data.{Data, Items, no_items, item}
use Rattle.serde_json.specs.Read.{read}
use Rattle.serde_json.specs.Find.{get, as_number, as_str, as_array, as_i64}
use Rattle.mesh_grid.specs.declared.snap.steps.GridStep.{GridStep}
use Rattle.mesh_grid.specs.declared.snap.offsets.Offset.{Offset}
use Rattle.mesh_grid.specs.declared.grid.grid.Grid.{Grid}
use Rattle.mesh_scene.specs.declared.scene_file.fault.SceneFileFault.{SceneFileFault}
use Rattle.mesh_scene.specs.declared.scene_file.fault.SceneFileFault.TheVariants.{NotAScene, OutOfMemory}
use Rattle.mesh_scene.specs.SceneFile.Fractions.{IsStepText}

-- ---- the step
-- the member `step` of an object, a text
abbrev pub step_text_in : Data → Option (List ℕ)
step_text_in value = option_and_then as_str (get (codes "step") value)

-- it spells this step
pub record IsStepIn (value : Data) (s : GridStep) : Type 0 where
  pub text : List ℕ
  pub is_member : step_text_in value ≡ Some text
  pub is_text : IsStepText text s

-- ---- the offset
-- a whole number of 64 bits
abbrev pub whole_in : Data → Option ℤ
whole_in value = option_and_then as_i64 (as_number value)

abbrev pub offset_from : Option ℤ → Option ℤ → Option ℤ → Option Offset
offset_from (Some x) (Some y) (Some z) = Some (record { x = x; y = y; z = z })
offset_from (Some x) (Some y) None = None
offset_from (Some x) None z = None
offset_from None y z = None

-- three whole numbers
abbrev pub offset_of : Items → Option Offset
offset_of no_items = None
offset_of (item x no_items) = None
offset_of (item x (item y no_items)) = None
offset_of (item x (item y (item z no_items))) = offset_from (whole_in x) (whole_in y) (whole_in z)
offset_of (item x (item y (item z (item more items)))) = None

-- the member `offset` of an object
abbrev pub offset_in : Data → Option Offset
offset_in value = option_and_then offset_of (option_and_then as_array (get (codes "offset") value))

-- ---- both
pub record IsGridIn (value : Data) (g : Grid) : Type 0 where
  pub step : IsStepIn value g.step
  pub offset : offset_in value ≡ Some g.offset

-- the bytes are UTF-8, and JSON that has this grid
pub record IsSceneOf (bytes : List ℕ) (g : Grid) : Type 0 where
  pub utf8 : IsUtf8 bytes
  pub value : Data
  pub json : read bytes ≡ Some value
  pub grid : IsGridIn value g

-- there is no such grid; or out-of-memory
abbrev pub IsFault : List ℕ → SceneFileFault → Type 0
IsFault bytes NotAScene = (g : Grid) → IsSceneOf bytes g → ⊥
IsFault bytes OutOfMemory = ⊤
