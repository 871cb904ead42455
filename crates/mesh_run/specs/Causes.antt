-- Why meshes get no output: a cause of each status
use Rattle.std.specs.Prelude.{◌≡◌, ◌⊎◌, ⊤, ℕ, ◌-◌, List, [], take, string_bytes}
use Rattle.std.specs.declared.option.Option.{Option}
use Rattle.mesh_boolean.specs.declared.fault.BooleanFault.TheVariants as boolean
use Rattle.mesh_boolean.specs.declared.files.InputFile.{InputFile}
use Rattle.mesh_boolean.specs.declared.wanted.WantedFile.{WantedFile}
use Rattle.mesh_boolean.specs.Faults.{IsBooleanFault, IsFirstUnread, IsPlacingFault, IsUnplaceable}
use Rattle.ember_expr.specs.Formula.{Formula}
use Rattle.mesh_file.specs.declared.file.fault.FileFault.{FileFault}
use Rattle.mesh_file.specs.declared.format.format.Format.{Format}
use Rattle.mesh_grid.specs.declared.grid.choice.Wanted.{Wanted}
use Rattle.ember_io.specs.Shelves.{TellsMore, IsFileIn}
use Rattle.ember_io.specs.declared.shelf.FaultKind.{FaultKind}
use Rattle.ember_io.specs.declared.shelf.ReadEnd.{ReadEnd}
use Rattle.ember_io.specs.declared.shelf.ReadEnd.TheVariants as read
use Rattle.mesh_placing.specs.declared.files.Placing.{Placing}
use Rattle.mesh_placing.specs.declared.image.ImageFault.{ImageFault}
use Rattle.mesh_words.specs.declared.command.Request.{Request}
use Rattle.mesh_words.specs.declared.command.SnapRequest.{SnapRequest}
use Rattle.mesh_scene.specs.declared.scene.fault.Open.{Open}
use Rattle.mesh_scene.specs.declared.scene.fault.SceneFault.{SceneFault}
use Rattle.mesh_scene.specs.declared.scene.fault.SceneFault.TheVariants as scene
use Rattle.mesh_run.specs.Asked.{Asks, IsStepOfNoGrid, IsWanted, IsWordsCause}
use Rattle.mesh_refusal.specs.Placings.{image_reason}
use Rattle.mesh_refusal.specs.Statuses.{HasFormat, HasReason}
use Rattle.ember_io.specs.Calls.{ShelfCall, HasShelfFailed}
use Rattle.mesh_run.specs.Files.{AreFiles, AreRead}
use Rattle.mesh_texts.specs.Texts.{name_of}
use Rattle.mesh_refusal.specs.declared.status.Status.{Status}
use Rattle.mesh_refusal.specs.declared.status.Status.TheVariants.{Done, Words, StepOfNoGrid, ReadFault}
use Rattle.mesh_refusal.specs.declared.status.Status.TheVariants.{WriteFault, NotWritten, FileRefused}
use Rattle.mesh_refusal.specs.declared.status.Status.TheVariants.{NoTriangles, NotClosed, ExprRefused}
use Rattle.mesh_refusal.specs.declared.status.Status.TheVariants.{Unbounded, LongFile}
use Rattle.mesh_refusal.specs.declared.status.Status.TheVariants.{TooManyTriangles, TooManyWritten}
use Rattle.mesh_refusal.specs.declared.status.Status.TheVariants.{StepTooSmall, TooFar, OutOfMemory}
use Rattle.mesh_refusal.specs.declared.status.Status.TheVariants.{Uncertified}

-- ---- a file and those before it
-- the shelf failed at file i, by a fault of this kind, and no file before it is refused
pub record IsUnreadable (shelf : ShelfCall) (names : List (List ℕ)) (i : ℕ) (kind : FaultKind) : Type 0 where
  pub one_of : IsFileIn names i
  pub failed : HasShelfFailed shelf
  pub place : shelf.fault_at ≡ i
  pub kind_is : kind ≡ shelf.fault_kind
  pub before : AreRead shelf.told (take (i - 1) names)

-- file i has more than 2^28 bytes, and no file before it is refused
pub record IsLong (told : List ℕ → Option (List ℕ)) (names : List (List ℕ)) (i : ℕ) : Type 0 where
  pub one_of : IsFileIn names i
  pub long : TellsMore (told (name_of names i)) 268435456
  pub before : AreRead told (take (i - 1) names)

-- file i is the first that is refused, for this reason; nothing is said of the files after it
pub record IsRefused (told : List ℕ → Option (List ℕ)) (names : List (List ℕ)) (i : ℕ) (reason : List ℕ) : Type 0 where
  pub one_of : IsFileIn names i
  pub files : List InputFile
  pub are_files : AreFiles told (take i names) files
  pub fault : FileFault
  pub first : IsFirstUnread files (i - 1) fault
  pub reason_is : HasReason files (i - 1) fault reason

-- why one of the files that could be read is refused
abbrev pub IsRefusalCause : (List ℕ → Option (List ℕ)) → List (List ℕ) → Status → Type 0
IsRefusalCause told names (FileRefused i reason) = IsRefused told names i (string_bytes reason)
IsRefusalCause told names OutOfMemory = ⊤
IsRefusalCause told names status = ⊥

-- why not all files are read
abbrev pub IsReadingCause : List (List ℕ) → ShelfCall → Status → Type 0
IsReadingCause names shelf (ReadFault i kind) = IsUnreadable shelf names i kind
IsReadingCause names shelf (LongFile i) = IsLong shelf.told names i
IsReadingCause names shelf status = IsRefusalCause shelf.told names status

-- the status that comes of the way in which reading file i ended, if no file before it is refused; the shelf's last
-- fault was of this kind
abbrev pub end_status : ℕ → ReadEnd → FaultKind → Status
end_status i read.ReadFault kind = ReadFault i kind
end_status i (read.TooLong count) kind = LongFile i
end_status i read.OutOfMemory kind = OutOfMemory

-- a file before file i is refused, or none is, and this is the status of its end
abbrev pub IsEndAt : (List ℕ → Option (List ℕ)) → List (List ℕ) → ℕ → ReadEnd → FaultKind → Status → Type 0
IsEndAt told names i end kind status =
    IsRefusalCause told names status ⊎ ((status ≡ end_status i end kind) × AreRead told (take (i - 1) names))

-- ---- all files together
-- the files have a fault
pub record HaveFault (told : List ℕ → Option (List ℕ)) (names : List (List ℕ)) (IsFault : List InputFile → Type 0) :
    Type 0 where
  pub files : List InputFile
  pub are_files : AreFiles told names files
  pub is_fault : IsFault files

-- that they are no scene
abbrev pub HaveSceneFault : (List ℕ → Option (List ℕ)) → List (List ℕ) → List (Option Placing) → Wanted → SceneFault →
    Type 0
HaveSceneFault told names placings wanted fault = HaveFault told names
    (λ files. IsPlacingFault files placings wanted (boolean.Scene fault))

-- one of them isn't closed on the grid, and has this format
pub record HaveOpen (told : List ℕ → Option (List ℕ)) (names : List (List ℕ)) (placings : List (Option Placing))
    (wanted : Wanted) (o : Open) (format : Format) : Type 0 where
  pub files : List InputFile
  pub are_files : AreFiles told names files
  pub is_fault : IsPlacingFault files placings wanted (boolean.Scene (scene.Open o))
  pub format_is : HasFormat files o.file format

-- file i is no mesh where it is placed, for this reason
pub record IsUnplaced (told : List ℕ → Option (List ℕ)) (names : List (List ℕ)) (placings : List (Option Placing)) (i : ℕ)
    (reason : List ℕ) : Type 0 where
  pub one_of : IsFileIn names i
  pub files : List InputFile
  pub are_files : AreFiles told names files
  pub fault : ImageFault
  pub is_fault : IsUnplaceable files placings (i - 1) fault
  pub reason_is : reason ≡ image_reason fault

-- why files that were read aren't put on the grid
abbrev pub IsPlacingCause : (List ℕ → Option (List ℕ)) → List (List ℕ) → List (Option Placing) → Wanted → Status → Type 0
IsPlacingCause told names placings wanted (FileRefused i reason) =
    IsRefused told names i (string_bytes reason) ⊎ IsUnplaced told names placings i (string_bytes reason)
IsPlacingCause told names placings wanted NoTriangles = HaveSceneFault told names placings wanted scene.NoTriangles
IsPlacingCause told names placings wanted (NotClosed o format) = HaveOpen told names placings wanted o format
IsPlacingCause told names placings wanted (TooManyTriangles count) =
    HaveSceneFault told names placings wanted (scene.TooManyTriangles count)
IsPlacingCause told names placings wanted (StepTooSmall extent) =
    HaveSceneFault told names placings wanted (scene.StepTooSmall extent)
IsPlacingCause told names placings wanted OutOfMemory = ⊤
IsPlacingCause told names placings wanted status = ⊥

-- why files that were read have no output
abbrev pub IsFilesCause : (List ℕ → Option (List ℕ)) → List (List ℕ) → Formula → WantedFile → Status → Type 0
IsFilesCause told names formula wanted (Uncertified fault) =
    HaveFault told names (λ files. IsBooleanFault files formula wanted (boolean.Solid fault))
IsFilesCause told names formula wanted TooFar =
    HaveFault told names (λ files. IsBooleanFault files formula wanted boolean.TooFar)
IsFilesCause told names formula wanted TooManyWritten =
    HaveFault told names (λ files. IsBooleanFault files formula wanted boolean.TooManyTriangles)
IsFilesCause told names formula wanted status = IsPlacingCause told names wanted.placings.now wanted.grid status

-- ---- a Boolean
-- why a request that asks for something gets no output
abbrev pub IsAskedCause : Request → Formula → WantedFile → ShelfCall → Status → Type 0
IsAskedCause request formula wanted shelf (ReadFault i kind) = IsReadingCause request.files shelf (ReadFault i kind)
IsAskedCause request formula wanted shelf (LongFile i) = IsReadingCause request.files shelf (LongFile i)
IsAskedCause request formula wanted shelf status = IsFilesCause shelf.told request.files formula wanted status

-- it asks for something, but gets no output
pub record IsLateCause (request : Request) (shelf : ShelfCall) (status : Status) : Type 0 where
  pub wanted : WantedFile
  pub formula : Formula
  pub asks : Asks request wanted formula
  pub cause : IsAskedCause request formula wanted shelf status

-- why a request gets no output: the words, the expression, a file, or all files together; of want of memory nothing is
-- said
abbrev pub IsStop : Request → ShelfCall → Status → Type 0
IsStop request shelf Done = ⊥
IsStop request shelf (Words why) = ⊥
IsStop request shelf WriteFault = ⊥
IsStop request shelf (NotWritten name) = ⊥
IsStop request shelf StepOfNoGrid = IsWordsCause request StepOfNoGrid
IsStop request shelf (ExprRefused fault) = IsWordsCause request (ExprRefused fault)
IsStop request shelf Unbounded = IsWordsCause request Unbounded
IsStop request shelf OutOfMemory = ⊤
IsStop request shelf status = IsLateCause request shelf status

-- ---- meshes on their grid
-- why files aren't put on the grid that is wanted for them
abbrev pub IsSceneCause : List (List ℕ) → Wanted → ShelfCall → Status → Type 0
IsSceneCause names wanted shelf (ReadFault i kind) = IsReadingCause names shelf (ReadFault i kind)
IsSceneCause names wanted shelf (LongFile i) = IsReadingCause names shelf (LongFile i)
IsSceneCause names wanted shelf status = IsPlacingCause shelf.told names [] wanted status

-- a grid is asked for, but the files aren't put on it
pub record IsLateSnapCause (request : SnapRequest) (shelf : ShelfCall) (status : Status) : Type 0 where
  pub wanted : Wanted
  pub asks : IsWanted request.step wanted
  pub cause : IsSceneCause request.files wanted shelf status

-- why files aren't snapped: the step, a file, or all files together; of want of memory nothing is said
abbrev pub IsSnapStop : SnapRequest → ShelfCall → Status → Type 0
IsSnapStop request shelf StepOfNoGrid = IsStepOfNoGrid request.step
IsSnapStop request shelf OutOfMemory = ⊤
IsSnapStop request shelf status = IsLateSnapCause request shelf status
