-- What a call promises
use Rattle.std.specs.Prelude.{◌≡◌, ◌≤◌, ℕ, Bool, List, [], ◌∷◌, false, None, Some, Result, Ok, Err}
use Rattle.std.specs.Prelude.{String, map, string_bytes}
use Rattle.std.specs.Global.{Vec}
use Rattle.std.specs.declared.alloc.Global.{Global}
use Rattle.std.specs.declared.option.Option.{Option}
use Rattle.mesh_run.specs.declared.writing.Sending.{Sending}
use Rattle.mesh_boolean.specs.declared.output.SolidFile.{SolidFile}
use Rattle.mesh_boolean.specs.declared.writing.OutputMesh.{OutputMesh}
use Rattle.mesh_words.specs.declared.command.Command.{Command}
use Rattle.mesh_words.specs.declared.command.Command.TheVariants.{Boole, Snap, Export, Info, View, Help, Version}
use Rattle.mesh_words.specs.declared.command.ExportRequest.{ExportRequest}
use Rattle.mesh_words.specs.declared.command.Request.{Request}
use Rattle.mesh_words.specs.declared.command.SnapRequest.{SnapRequest}
use Rattle.mesh_words.specs.declared.command.ViewRequest.{ViewRequest}
use Rattle.mesh_words.specs.declared.faults.Refusal.{Refusal}
use Rattle.mesh_words.specs.Arguments.{words_ask_json}
use Rattle.mesh_words.specs.Commands.{command_of}
use Rattle.mesh_scene.specs.declared.scene.scene.PlacedScene.{PlacedScene}
use Rattle.mesh_outside.specs.Target.Several.{NamedBytes, PutsEach}
use Rattle.mesh_outside.specs.Target.Targets.{Puts}
use Rattle.ember_io.specs.Calls.{ShelfCall, SinkCall, KeepsContents}
use Rattle.ember_io.specs.Shelves.{Told}
use Rattle.mesh_run.specs.Calls.{TargetCall, FilesCall, StreamsCall, DevicesCall, HoldsAll, IsSaid}
use Rattle.ember_io.specs.Calls.{TakesAll, TakesSome, TakesUntilFault}
use Rattle.mesh_run.specs.Causes.{IsReadingCause, IsSnapStop, IsStop}
use Rattle.mesh_run.specs.Exports.{IsExport, IsExportStop}
use Rattle.mesh_run.specs.Infos.{AreInfoLines}
use Rattle.mesh_run.specs.Memory.{hides_memory}
use Rattle.mesh_report.specs.Messages.{usage_text, version_text}
use Rattle.mesh_run.specs.Outputs.{IsOutputFor, IsPlacedFor}
use Rattle.mesh_run.specs.Pages.{IsPageOf}
use Rattle.mesh_refusal.specs.Said.{export_said, memory_said, output_said, reading_said}
use Rattle.mesh_refusal.specs.Said.{snap_said, solid_said, words_said}
use Rattle.mesh_report.specs.Said.{exported_report, placed_report, solid_report}
use Rattle.mesh_run.specs.Unmet.{EndsAs, EndsOn, IsUnmet}
use Rattle.mesh_run.specs.Writes.{ArePageAndMesh, AreSceneFiles, AreSolidFiles, sent_bytes, sent_to}
use Rattle.mesh_refusal.specs.declared.status.Status.{Status}
use Rattle.mesh_refusal.specs.declared.status.Status.TheVariants.{Done, Words, WriteFault, OutOfMemory}

-- What err takes is a line or lines, or one object if the words ask for JSON: `json` says whether they do

-- ---- a mesh to standard output
-- all files are put. Then out takes the mesh, if it goes there, and err the report; or out fails
abbrev pub IsSent : Bool → Option (List ℕ) → List ℕ → SinkCall → Status → List ℕ → Type 0
IsSent json None report out status text = (status ≡ Done) × (text ≡ report) × (out.taken_after ≡ out.taken)
IsSent json (Some mesh) report out Done text = TakesAll out mesh × (text ≡ report)
IsSent json (Some mesh) report out WriteFault text = TakesSome out mesh × (text ≡ output_said json)
IsSent json (Some mesh) report out status text = ⊥

-- the same by the mesh itself
abbrev pub AreSent : Bool → Option (Vec ℕ) → List ℕ → SinkCall → Status → List ℕ → Type 0
AreSent json sent report out status text = IsSent json (sent_bytes sent) report out status text

-- ---- a Boolean
-- the output is that of the request, and its files are put, each in its turn; this goes to out, and this is the report
pub record PutsSolid (json : Bool) (request : Request) (shelf : ShelfCall) (target : TargetCall)
    (sent : Option (List ℕ)) (report : List ℕ) : Type 0 where
  pub output : SolidFile
  pub is_output : IsOutputFor request shelf.told output
  pub files : List NamedBytes
  pub are_files : AreSolidFiles request output files
  pub written : PutsEach files target.held target.held_after
  pub sent_is : sent ≡ sent_to request.output output.written.bytes.items
  pub report_is : report ≡ solid_report json request output

-- out takes what goes there, and err the report; or out fails
pub record WritesSolid (json : Bool) (request : Request) (shelf : ShelfCall) (target : TargetCall) (out : SinkCall)
    (status : Status) (text : List ℕ) : Type 0 where
  pub sent : Option (List ℕ)
  pub report : List ℕ
  pub puts : PutsSolid json request shelf target sent report
  pub is_sent : IsSent json sent report out status text

-- these are the files of an output of the request
pub record AreFilesFor (request : Request) (told : Told) (files : List NamedBytes) : Type 0 where
  pub output : SolidFile
  pub is_output : IsOutputFor request told output
  pub are_files : AreSolidFiles request output files

abbrev pub IsSolidUnmet : Request → ShelfCall → TargetCall → Status → Type 0
IsSolidUnmet request shelf target status =
    IsUnmet (IsStop request shelf) (AreFilesFor request shelf.told) target status

-- or the files aren't all written; err takes what is said of the status
abbrev pub IsSolidOutcome : Bool → Request → ShelfCall → TargetCall → SinkCall → Status → List ℕ → Type 0
IsSolidOutcome json request shelf target out status text =
    EndsOn out (WritesSolid json request shelf target out) (IsSolidUnmet request shelf target)
    (solid_said json request) status text

-- ---- meshes on their grid
-- the files of the request are placed as it asks for, and the files of their scene are put, each in its turn; err takes
-- the report of the grid and of the files
pub record WritesScene (json : Bool) (request : SnapRequest) (shelf : ShelfCall) (target : TargetCall)
    (text : List ℕ) : Type 0 where
  pub placed : PlacedScene
  pub is_placed : IsPlacedFor request shelf.told placed
  pub files : List NamedBytes
  pub are_files : AreSceneFiles request.folder request.files placed files
  pub written : PutsEach files target.held target.held_after
  pub text_is : text ≡ placed_report json request placed

-- these are the files of a scene that the request asks for
pub record AreSnapFilesFor (request : SnapRequest) (told : Told) (files : List NamedBytes) :
    Type 0 where
  pub placed : PlacedScene
  pub is_placed : IsPlacedFor request told placed
  pub are_files : AreSceneFiles request.folder request.files placed files

abbrev pub IsSnapUnmet : SnapRequest → ShelfCall → TargetCall → Status → Type 0
IsSnapUnmet request shelf target status =
    IsUnmet (IsSnapStop request shelf) (AreSnapFilesFor request shelf.told) target status

-- or the files aren't all written; err takes what is said of the status
abbrev pub IsSnapOutcome : Bool → SnapRequest → ShelfCall → TargetCall → Status → List ℕ → Type 0
IsSnapOutcome json request shelf target status text =
    EndsAs (WritesScene json request shelf target) (IsSnapUnmet request shelf target)
    (snap_said json request) status text

-- ---- a document
-- the mesh is that of the document that is named, and its files are put, each in its turn; this goes to out, and this
-- is the report of the mesh
pub record PutsExport (json : Bool) (request : ExportRequest) (shelf : ShelfCall) (target : TargetCall)
    (sent : Option (List ℕ)) (report : List ℕ) : Type 0 where
  pub mesh : OutputMesh
  pub is_export : IsExport request shelf.told mesh
  pub files : List NamedBytes
  pub are_files : ArePageAndMesh request.view [] [] request.output mesh files
  pub written : PutsEach files target.held target.held_after
  pub sent_is : sent ≡ sent_to request.output mesh.bytes.items
  pub report_is : report ≡ exported_report json request mesh

-- out takes what goes there, and err the report; or out fails
pub record WritesExport (json : Bool) (request : ExportRequest) (shelf : ShelfCall) (target : TargetCall)
    (out : SinkCall) (status : Status) (text : List ℕ) : Type 0 where
  pub sent : Option (List ℕ)
  pub report : List ℕ
  pub puts : PutsExport json request shelf target sent report
  pub is_sent : IsSent json sent report out status text

-- these are the files of a mesh that the request asks for
pub record AreExportFilesFor (request : ExportRequest) (told : Told) (files : List NamedBytes) :
    Type 0 where
  pub mesh : OutputMesh
  pub is_export : IsExport request told mesh
  pub are_files : ArePageAndMesh request.view [] [] request.output mesh files

abbrev pub IsExportUnmet : ExportRequest → ShelfCall → TargetCall → Status → Type 0
IsExportUnmet request shelf target status =
    IsUnmet (IsExportStop request shelf) (AreExportFilesFor request shelf.told) target status

-- or the files aren't all written; err takes what is said of the status
abbrev pub IsExportOutcome : Bool → ExportRequest → ShelfCall → TargetCall → SinkCall → Status → List ℕ → Type 0
IsExportOutcome json request shelf target out status text =
    EndsOn out (WritesExport json request shelf target out) (IsExportUnmet request shelf target)
    (export_said json request) status text

-- ---- help and the version
-- out takes this message, or fails
abbrev pub IsMessageOutcome : Bool → List ℕ → SinkCall → Status → List ℕ → Type 0
IsMessageOutcome json message out Done text = TakesAll out message × (text ≡ [])
IsMessageOutcome json message out WriteFault text = TakesSome out message × (text ≡ output_said json)
IsMessageOutcome json message out OutOfMemory text = (out.taken_after ≡ out.taken) × (text ≡ memory_said json)
IsMessageOutcome json message out status text = ⊥

-- ---- what is said of meshes
-- out takes the lines of the files, or fails
pub record WritesInfos (json : Bool) (names : List (List ℕ)) (shelf : ShelfCall) (out : SinkCall) (status : Status)
    (text : List ℕ) : Type 0 where
  pub lines : List ℕ
  pub are_lines : AreInfoLines shelf.told names lines
  pub written : IsMessageOutcome json lines out status text

-- or not all files are read, and out takes nothing
abbrev pub IsInfoOutcome : Bool → List (List ℕ) → ShelfCall → SinkCall → Status → List ℕ → Type 0
IsInfoOutcome json names shelf out Done text = WritesInfos json names shelf out Done text
IsInfoOutcome json names shelf out WriteFault text = WritesInfos json names shelf out WriteFault text
IsInfoOutcome json names shelf out status text =
    IsReadingCause names shelf status × (out.taken_after ≡ out.taken) × (text ≡ reading_said json names status)

-- ---- a page
-- the name of the output holds the page of the files, and each other name what it held; err takes nothing
pub record WritesPage (request : ViewRequest) (shelf : ShelfCall) (target : TargetCall) (text : List ℕ) : Type 0 where
  pub page : List ℕ
  pub is_page : IsPageOf shelf.told request.files page
  pub written : Puts target.held target.held_after request.output (Some page)
  pub text_is : text ≡ []

-- this is the page of the files under its name
pub record IsPageFor (request : ViewRequest) (told : Told) (files : List NamedBytes) : Type 0 where
  pub page : List ℕ
  pub is_page : IsPageOf told request.files page
  pub all : files ≡ (request.output, page) ∷ []

abbrev pub IsPageUnmet : ViewRequest → ShelfCall → TargetCall → Status → Type 0
IsPageUnmet request shelf target status =
    IsUnmet (IsReadingCause request.files shelf) (IsPageFor request shelf.told) target status

-- or no page is written; err takes what is said of the status
abbrev pub IsViewOutcome : Bool → ViewRequest → ShelfCall → TargetCall → Status → List ℕ → Type 0
IsViewOutcome json request shelf target status text =
    EndsAs (WritesPage request shelf target) (IsPageUnmet request shelf target) (reading_said json request.files) status
    text

-- ---- words that are refused
abbrev pub IsWordsOutcome : Bool → List (List ℕ) → Refusal → Status → List ℕ → Type 0
IsWordsOutcome json words why (Words refusal) text = (refusal ≡ why) × (text ≡ words_said json words why)
IsWordsOutcome json words why OutOfMemory text = text ≡ memory_said json
IsWordsOutcome json words why status text = ⊥

-- ---- all words
-- what comes of words that give this command, or are refused; err takes the text
abbrev pub IsOutcome : Bool → List (List ℕ) → Result Command Refusal → ShelfCall → TargetCall → SinkCall → Status →
    List ℕ → Type 0
IsOutcome json words (Err why) shelf target out status text =
    IsWordsOutcome json words why status text × HoldsAll target × (out.taken_after ≡ out.taken)
IsOutcome json words (Ok (Info names)) shelf target out status text =
    IsInfoOutcome json names shelf out status text × HoldsAll target
IsOutcome json words (Ok (View request)) shelf target out status text =
    IsViewOutcome json request shelf target status text × (out.taken_after ≡ out.taken)
IsOutcome json words (Ok (Snap request)) shelf target out status text =
    IsSnapOutcome json request shelf target status text × (out.taken_after ≡ out.taken)
IsOutcome json words (Ok (Export request)) shelf target out status text =
    IsExportOutcome json request shelf target out status text
IsOutcome json words (Ok Help) shelf target out status text =
    IsMessageOutcome json usage_text out status text × HoldsAll target
IsOutcome json words (Ok Version) shelf target out status text =
    IsMessageOutcome json version_text out status text × HoldsAll target
IsOutcome json words (Ok (Boole request)) shelf target out status text =
    IsSolidOutcome json request shelf target out status text

-- what a call with these words promises
pub record MeshServes (words : List (List ℕ)) (shelf : ShelfCall) (target : TargetCall) (out err : SinkCall)
    (status : Status) : Type 0 where
  -- the shelf has what it had, no new file is begun, and no count of faults falls
  pub contents : KeepsContents shelf
  pub none_begun : target.begun ≡ None
  pub target_later : target.faults ≤ target.faults_after
  pub out_later : out.faults ≤ out.faults_after
  -- what was written or why not, and what err takes of it up to its first fault
  pub text : List ℕ
  pub outcome : IsOutcome (words_ask_json words) words (command_of words) shelf target out status text
  pub said : TakesUntilFault err text
  -- out-of-memory isn't hidden in another status
  pub memory : hides_memory status ≡ false

-- ---- the same in the clauses of the calls
-- want of memory for what is said of a status: this is the status, and it is said
abbrev pub SaysMemory : Bool → SinkCall → Status → Type 0
SaysMemory json err status = (status ≡ OutOfMemory) × TakesUntilFault err (memory_said json)

-- the files are put, and this is to be sent
abbrev pub SendsSolid : Bool → Request → ShelfCall → TargetCall → Sending → Type 0
SendsSolid json request shelf target sending =
    PutsSolid json request shelf target (sent_bytes sending.sent) sending.report.items

abbrev pub SendsExport : Bool → ExportRequest → ShelfCall → TargetCall → Sending → Type 0
SendsExport json request shelf target sending =
    PutsExport json request shelf target (sent_bytes sending.sent) sending.report.items

-- the files are put, and this is the report
abbrev pub PutsScene : Bool → SnapRequest → ShelfCall → TargetCall → Vec ℕ → Type 0
PutsScene json request shelf target report = WritesScene json request shelf target report.items

-- the page is put
abbrev pub PutsPage : ViewRequest → ShelfCall → TargetCall → Type 0
PutsPage request shelf target = WritesPage request shelf target []

-- a request is served: this is the outcome, and it is said
abbrev pub ServesSolid : Bool → Request → DevicesCall → Status → Type 0
ServesSolid json request seen status = IsSaid seen.streams.err
    (IsSolidOutcome json request seen.files.shelf seen.files.target seen.streams.out status)

abbrev pub ServesExport : Bool → ExportRequest → DevicesCall → Status → Type 0
ServesExport json request seen status = IsSaid seen.streams.err
    (IsExportOutcome json request seen.files.shelf seen.files.target seen.streams.out status)

abbrev pub ServesSnap : Bool → SnapRequest → FilesCall → SinkCall → Status → Type 0
ServesSnap json request files err status = IsSaid err (IsSnapOutcome json request files.shelf files.target status)

abbrev pub ServesView : Bool → ViewRequest → FilesCall → SinkCall → Status → Type 0
ServesView json request files err status = IsSaid err (IsViewOutcome json request files.shelf files.target status)

abbrev pub ServesInfos : Bool → List (List ℕ) → ShelfCall → StreamsCall → Status → Type 0
ServesInfos json names shelf streams status = IsSaid streams.err (IsInfoOutcome json names shelf streams.out status)

-- what a call promises for its words
abbrev pub ServesWords : List (String Global) → DevicesCall → Status → Type 0
ServesWords words seen status = MeshServes (map string_bytes words)
    seen.files.shelf seen.files.target seen.streams.out seen.streams.err status
