-- How many texts and verdicts there are of one thing
use Rattle.std.specs.Prelude.{◌≡◌, ◌≢◌, ◌↔◌, ℕ, ℤ, List, Some}
use Rattle.ember_expr.specs.Formula.{Formula}
use Rattle.ember_io.specs.Shelves.{Told}
use Rattle.ember_meaning.specs.Regions.Meaning.{IsFalseOutside}
use Rattle.ember_meaning.specs.Regions.Solids.{IsSolidText}
use Rattle.ember_model.specs.FaceFiles.{IsFaceFile}
use Rattle.ember_model.specs.Meshes.{wind}
use Rattle.ember_model.specs.declared.face.Face.{Face}
use Rattle.ember_model.specs.declared.point.Axis.{Axis}
use Rattle.ember_model.specs.declared.point.Spot.{Spot}
use Rattle.ember_model.specs.declared.tri.Tri.{Tri}
use Rattle.ember_words.specs.WordsCommand.{command_of}
use Rattle.ember_words.specs.declared.command.Command.{Command}
use Rattle.ember_words.specs.declared.command.Command.TheVariants as command
use Rattle.ember_verdict.specs.Outputs.{Output, IsOutput, SolidFaces}
use Rattle.ember_verdict.specs.Reported.{IsErrText}
use Rattle.ember_verdict.specs.Slices.{IsSliceable, IsSliceRefusal}
use Rattle.ember_verdict.specs.Statuses.{IsTextIfTold}
use Rattle.ember_verdict.specs.Verdict.{Unknown, told_verdict}
use Rattle.ember_verdict.specs.declared.status.Status.{Status}

-- at most one has the property
abbrev pub AtMostOne : {A : Type 0} → (A → Type 0) → Type 0
AtMostOne {A} P = (one other : A) → P one → P other → one ≡ other

-- ---- outputs
-- the output has at most one text
abbrev pub HasOneText : Output → Type 0
HasOneText output = AtMostOne (IsOutput output)

-- each text of the output has the property
abbrev pub AllTexts : Output → (List ℕ → Type 0) → Type 0
AllTexts output P = (bytes : List ℕ) → IsOutput output bytes → P bytes

-- over these triangles the document of a solid whose expression is false outside is its output, and each output is the
-- document
abbrev pub DocumentsAreOutputs : List Tri → Type 0
DocumentsAreOutputs tris =
    (f : Formula) (bytes : List ℕ) → IsFalseOutside f → IsSolidText tris f bytes ↔ IsOutput (SolidFaces tris f) bytes

-- ---- calls
-- all contents on which the verdict on these words depends are told
abbrev pub IsDecided : List (List ℕ) → Told → Type 0
IsDecided words told = told_verdict (command_of words) told ≢ Unknown

-- the words have at most one output
abbrev pub HaveOneOutText : List (List ℕ) → Told → Type 0
HaveOneOutText words told = AtMostOne (IsTextIfTold (told_verdict (command_of words) told))

-- the words have at most one text on err for each status
abbrev pub HaveOneErrText : List (List ℕ) → Told → Type 0
HaveOneErrText words told = (status : Status) → AtMostOne (IsErrText (command_of words) told status)

-- the commands have one verdict, whatever is told
abbrev pub HaveOneVerdict : Command → Command → Type 0
HaveOneVerdict one other = (told : Told) → told_verdict (Some one) told ≡ told_verdict (Some other) told

-- the same command by another number of workers; some commands have no such number
abbrev pub by_workers : ℕ → Command → Command
by_workers n (command.Faces places file) = command.Faces places file
by_workers n (command.At point expr places files) = command.At point expr places files
by_workers n (command.Boole expr workers places report files) = command.Boole expr n places report files
by_workers n (command.Demo boxes workers) = command.Demo boxes n
by_workers n (command.Voxels expr size workers places files) = command.Voxels expr size n places files
by_workers n (command.Pairs workers places files) = command.Pairs n places files
by_workers n (command.Slice at file) = command.Slice at file

-- ---- face files
-- no other faces are read from the bytes
abbrev pub ReadsOnlyAs : List Face → List ℕ → Type 0
ReadsOnlyAs faces bytes = (read : List Face) → IsFaceFile bytes read → read ≡ faces

-- faces that are read from the bytes wind around each point as these do, along each axis
abbrev pub WindsOnlyAs : List Face → List ℕ → Type 0
WindsOnlyAs faces bytes =
    (read : List Face) → IsFaceFile bytes read → (axis : Axis) (point : Spot) →
    wind axis read point ≡ wind axis faces point

-- the bytes can be sliced at each level
abbrev pub IsAlwaysSliceable : List ℕ → Type 0
IsAlwaysSliceable bytes = (at : ℤ) → IsSliceable at bytes

-- slicing the bytes is refused at no level
abbrev pub IsNeverRefused : List ℕ → Type 0
IsNeverRefused bytes = (at : ℤ) (status : Status) → IsSliceRefusal at bytes status → ⊥
