-- The mesh of a document, and why there is none
use Rattle.std.specs.Prelude.{◌≡◌, ⊤, ℕ, ◌-◌, List, Some, None, All, MatchOption, is_some, pos, take}
use Rattle.std.specs.declared.option.Option.{Option}
use Rattle.mesh_boolean.specs.declared.document.DocumentFileFault.{DocumentFileFault}
use Rattle.mesh_boolean.specs.declared.document.DocumentFileFault.TheVariants as document
use Rattle.mesh_boolean.specs.declared.writing.OutputMesh.{OutputMesh}
use Rattle.mesh_boolean.specs.DocumentFiles.{IsDocumentFileFault, IsDocumentOutput}
use Rattle.mesh_grid.specs.declared.grid.grid.Grid.{Grid}
use Rattle.ember_io.specs.Shelves.{TellsMore, AreBytes, IsFileIn}
use Rattle.ember_io.specs.declared.shelf.FaultKind.{FaultKind}
use Rattle.mesh_words.specs.declared.command.ExportRequest.{ExportRequest}
use Rattle.mesh_scene.specs.SceneFile.Scenes.{IsSceneOf}
use Rattle.mesh_run.specs.Asked.{format_asked}
use Rattle.ember_io.specs.Calls.{ShelfCall, HasShelfFailed}
use Rattle.mesh_refusal.specs.ExportLines.{names_read}
use Rattle.mesh_texts.specs.Texts.{name_of}
use Rattle.mesh_refusal.specs.declared.status.Status.{Status}
use Rattle.mesh_refusal.specs.declared.status.Status.TheVariants.{ReadFault, LongFile, NotAScene}
use Rattle.mesh_refusal.specs.declared.status.Status.TheVariants.{TooManyWritten, TooFar, OutOfMemory}
use Rattle.mesh_refusal.specs.declared.status.Status.TheVariants.{DocumentRefused}

-- ---- the grid
-- the file of this name is a scene with this grid
pub record IsSceneFile (told : List ℕ → Option (List ℕ)) (name : List ℕ) (grid : Grid) : Type 0 where
  pub bytes : List ℕ
  pub are_bytes : AreBytes told name bytes
  pub is_scene : IsSceneOf bytes grid

-- the step 1, and nothing is moved
abbrev pub unit_grid : Grid
unit_grid = record {
  step = record { numerator = 1; denominator = 1 };
  offset = record { x = pos 0; y = pos 0; z = pos 0 };
}

-- the grid of the scene that is named, or this one if none is
abbrev pub IsGridGiven : ExportRequest → (List ℕ → Option (List ℕ)) → Grid → Type 0
IsGridGiven request told grid = MatchOption request.scene (grid ≡ unit_grid) (λ name. IsSceneFile told name grid)

-- ---- the mesh
-- the document on its grid, in the format that is asked for, and as a page shows it if a page is named
pub record IsExport (request : ExportRequest) (told : List ℕ → Option (List ℕ)) (mesh : OutputMesh) : Type 0 where
  pub grid : Grid
  pub grid_is : IsGridGiven request told grid
  pub bytes : List ℕ
  pub are_bytes : AreBytes told request.document bytes
  pub of_document : IsDocumentOutput bytes grid (format_asked request.format request.digits) (is_some request.view) mesh

-- ---- a file that isn't read
-- the file of this name is a scene
abbrev pub IsScene : (List ℕ → Option (List ℕ)) → List ℕ → Type 0
IsScene told name = (grid : Grid) × IsSceneFile told name grid

-- the shelf failed at file i, by a fault of this kind; if this is the document, the scene before it was read
pub record IsFileUnread (request : ExportRequest) (shelf : ShelfCall) (i : ℕ) (kind : FaultKind) : Type 0 where
  pub one_of : IsFileIn (names_read request) i
  pub failed : HasShelfFailed shelf
  pub place : shelf.fault_at ≡ i
  pub kind_is : kind ≡ shelf.fault_kind
  pub before : All (IsScene shelf.told) (take (i - 1) (names_read request))

-- file i has more than 2^28 bytes
pub record IsFileLong (request : ExportRequest) (told : List ℕ → Option (List ℕ)) (i : ℕ) : Type 0 where
  pub one_of : IsFileIn (names_read request) i
  pub long : TellsMore (told (name_of (names_read request) i)) 268435456
  pub before : All (IsScene told) (take (i - 1) (names_read request))

-- a scene is named, but the file of this name is none
pub record IsNoScene (request : ExportRequest) (told : List ℕ → Option (List ℕ)) : Type 0 where
  pub name : List ℕ
  pub named : request.scene ≡ Some name
  pub bytes : List ℕ
  pub are_bytes : AreBytes told name bytes
  pub none : (grid : Grid) → IsSceneOf bytes grid → ⊥

-- the number under which the document is read
abbrev pub index_behind : Option (List ℕ) → ℕ
index_behind None = 1
index_behind (Some scene) = 2

abbrev pub document_index : ExportRequest → ℕ
document_index request = index_behind request.scene

-- why the file of this name, which is read under this number, isn't read
abbrev pub IsUnreadFile : List ℕ → ℕ → ShelfCall → Status → Type 0
IsUnreadFile name number shelf (ReadFault i kind) =
    (i ≡ number) × HasShelfFailed shelf × (shelf.fault_at ≡ i) × (kind ≡ shelf.fault_kind)
IsUnreadFile name number shelf (LongFile i) = (i ≡ number) × TellsMore (shelf.told name) 268435456
IsUnreadFile name number shelf OutOfMemory = ⊤
IsUnreadFile name number shelf status = ⊥

-- why bytes give no grid
abbrev pub IsNoGrid : List ℕ → Status → Type 0
IsNoGrid bytes NotAScene = (grid : Grid) → IsSceneOf bytes grid → ⊥
IsNoGrid bytes OutOfMemory = ⊤
IsNoGrid bytes status = ⊥

-- ---- a document without a file
-- the document on its grid has this fault
pub record HasDocumentFault (request : ExportRequest) (told : List ℕ → Option (List ℕ)) (fault : DocumentFileFault) :
    Type 0 where
  pub grid : Grid
  pub grid_is : IsGridGiven request told grid
  pub bytes : List ℕ
  pub are_bytes : AreBytes told request.document bytes
  pub is_fault : IsDocumentFileFault bytes grid (format_asked request.format request.digits) fault

-- the status of a document with this fault
abbrev pub status_of_document : DocumentFileFault → Status
status_of_document (document.Document fault) = DocumentRefused fault
status_of_document document.TooFar = TooFar
status_of_document document.TooManyTriangles = TooManyWritten
status_of_document document.OutOfMemory = OutOfMemory

-- why a document isn't exported: a file, or the document itself; of want of memory nothing is said
abbrev pub IsExportStop : ExportRequest → ShelfCall → Status → Type 0
IsExportStop request shelf (ReadFault i kind) = IsFileUnread request shelf i kind
IsExportStop request shelf (LongFile i) = IsFileLong request shelf.told i
IsExportStop request shelf NotAScene = IsNoScene request shelf.told
IsExportStop request shelf (DocumentRefused fault) = HasDocumentFault request shelf.told (document.Document fault)
IsExportStop request shelf TooFar = HasDocumentFault request shelf.told document.TooFar
IsExportStop request shelf TooManyWritten = HasDocumentFault request shelf.told document.TooManyTriangles
IsExportStop request shelf OutOfMemory = ⊤
IsExportStop request shelf status = ⊥
