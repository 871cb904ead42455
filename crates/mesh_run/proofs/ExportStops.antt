-- Why a document isn't exported, step by step
use Rattle.std.proofs.Common.{◌≡◌, ◌-◌, ℕ, List, Some, false, take, refl, sym, subst, ◌∙◌, arith}
use Rattle.std.proofs.lemmas.List.Elements.{All-nil}
use Rattle.std.specs.declared.alloc.Global.{Global}
use Rattle.std.specs.declared.option.Option.{Option}
use Rattle.std.specs.Prelude.{String}
use Rattle.std.specs.List.{All}
use Rattle.mesh_boolean.specs.declared.document.DocumentFileFault.{DocumentFileFault}
use Rattle.mesh_boolean.specs.declared.document.DocumentFileFault.TheVariants as file
use Rattle.ember_io.specs.Shelves.{TellsMore, AreBytes, IsFileIn}
use Rattle.mesh_words.specs.declared.command.ExportRequest.{ExportRequest}
use Rattle.mesh_solid.specs.declared.mesh.fault.DocumentFault.TheVariants as document
use Rattle.mesh_solid.specs.declared.tables.fault.TableFault.TheVariants as table
use Rattle.mesh_triangles.specs.declared.fault.TrianglesFault.TheVariants as mesh
use Rattle.ember_io.specs.Calls.{ShelfCall}
use Rattle.mesh_run.specs.Exports.{IsExportStop, IsFileLong, IsFileUnread, IsNoGrid, IsScene}
use Rattle.mesh_run.specs.Exports.{IsUnreadFile}
use Rattle.mesh_refusal.specs.ExportLines.{names_read, with_document}
use Rattle.mesh_texts.specs.Texts.{name_of}
use Rattle.mesh_run.specs.Memory.{hides_memory}
use Rattle.mesh_refusal.specs.declared.status.Status.{Status}
use Rattle.mesh_refusal.specs.declared.status.Status.TheVariants.{Done, Words, StepOfNoGrid, ReadFault, WriteFault}
use Rattle.mesh_refusal.specs.declared.status.Status.TheVariants.{NotWritten, FileRefused, NoTriangles, NotAScene}
use Rattle.mesh_refusal.specs.declared.status.Status.TheVariants.{NotClosed, ExprRefused, Unbounded, LongFile}
use Rattle.mesh_refusal.specs.declared.status.Status.TheVariants.{TooManyTriangles, TooManyWritten, StepTooSmall}
use Rattle.mesh_refusal.specs.declared.status.Status.TheVariants.{TooFar, DocumentRefused, OutOfMemory, Uncertified}

-- ---- a file that isn't read

-- file i isn't read, and those before it are scenes
unread_stop : (request : ExportRequest) (shelf : ShelfCall) (name : List ℕ) (i : ℕ) (status : Status) →
    IsFileIn (names_read request) i → name_of (names_read request) i ≡ name →
    All (IsScene shelf.told) (take (i - 1) (names_read request)) → IsUnreadFile name i shelf status →
    IsExportStop request shelf status
unread_stop request shelf name i Done one named before h = absurd h
unread_stop request shelf name i (Words refusal) one named before h = absurd h
unread_stop request shelf name i StepOfNoGrid one named before h = absurd h
unread_stop request shelf name i (ReadFault number kind) one named before h =
    subst (λ (k : ℕ). IsFileUnread request shelf k kind) (sym h.0)
    (record { one_of = one; failed = h.1; place = h.2 ∙ h.0; kind_is = h.3; before = before })
unread_stop request shelf name i WriteFault one named before h = absurd h
unread_stop request shelf name i (NotWritten file) one named before h = absurd h
unread_stop request shelf name i (FileRefused number reason) one named before h = absurd h
unread_stop request shelf name i NoTriangles one named before h = absurd h
unread_stop request shelf name i NotAScene one named before h = absurd h
unread_stop request shelf name i (NotClosed o format) one named before h = absurd h
unread_stop request shelf name i (ExprRefused fault) one named before h = absurd h
unread_stop request shelf name i Unbounded one named before h = absurd h
unread_stop request shelf name i (LongFile number) one named before h =
    subst (λ (k : ℕ). IsFileLong request shelf.told k) (sym h.0)
    (record { one_of = one; long = subst (λ (n : List ℕ). TellsMore (shelf.told n) 268435456) (sym named) h.1; before = before })
unread_stop request shelf name i (TooManyTriangles count) one named before h = absurd h
unread_stop request shelf name i TooManyWritten one named before h = absurd h
unread_stop request shelf name i (StepTooSmall extent) one named before h = absurd h
unread_stop request shelf name i TooFar one named before h = absurd h
unread_stop request shelf name i (DocumentRefused fault) one named before h = absurd h
unread_stop request shelf name i OutOfMemory one named before h = tt
unread_stop request shelf name i (Uncertified fault) one named before h = absurd h

scene_is_first : (document name : List ℕ) (scene : Option (List ℕ)) → scene ≡ Some name →
    IsFileIn (with_document scene document) 1 × (name_of (with_document scene document) 1 ≡ name)
scene_is_first document name scene e =
    subst (λ (s : Option (List ℕ)). IsFileIn (with_document s document) 1 ×
    (name_of (with_document s document) 1 ≡ name)) (sym e) (record { first = omega arith; last = omega arith }, refl)

-- the scene that is named isn't read
pub scene_stop : (request : ExportRequest) (shelf : ShelfCall) (name : List ℕ) (status : Status) →
    request.scene ≡ Some name → IsUnreadFile name 1 shelf status → IsExportStop request shelf status
scene_stop request shelf name status e h =
    let is = scene_is_first request.document name request.scene e in
    unread_stop request shelf name 1 status is.0 is.1 (All-nil (IsScene shelf.told)) h

-- ---- a scene without a grid
pub grid_stop : (request : ExportRequest) (shelf : ShelfCall) (name bytes : List ℕ) (status : Status) →
    request.scene ≡ Some name → AreBytes shelf.told name bytes → IsNoGrid bytes status → IsExportStop request shelf status
grid_stop request shelf name bytes Done e are h = absurd h
grid_stop request shelf name bytes (Words refusal) e are h = absurd h
grid_stop request shelf name bytes StepOfNoGrid e are h = absurd h
grid_stop request shelf name bytes (ReadFault i kind) e are h = absurd h
grid_stop request shelf name bytes WriteFault e are h = absurd h
grid_stop request shelf name bytes (NotWritten file) e are h = absurd h
grid_stop request shelf name bytes (FileRefused i reason) e are h = absurd h
grid_stop request shelf name bytes NoTriangles e are h = absurd h
grid_stop request shelf name bytes NotAScene e are h = record { name = name; named = e; bytes = bytes; are_bytes = are; none = h }
grid_stop request shelf name bytes (NotClosed o format) e are h = absurd h
grid_stop request shelf name bytes (ExprRefused fault) e are h = absurd h
grid_stop request shelf name bytes Unbounded e are h = absurd h
grid_stop request shelf name bytes (LongFile i) e are h = absurd h
grid_stop request shelf name bytes (TooManyTriangles count) e are h = absurd h
grid_stop request shelf name bytes TooManyWritten e are h = absurd h
grid_stop request shelf name bytes (StepTooSmall extent) e are h = absurd h
grid_stop request shelf name bytes TooFar e are h = absurd h
grid_stop request shelf name bytes (DocumentRefused fault) e are h = absurd h
grid_stop request shelf name bytes OutOfMemory e are h = tt
grid_stop request shelf name bytes (Uncertified fault) e are h = absurd h

-- ---- statuses
-- that a file isn't written is no reason
pub stop_is_no_write : (request : ExportRequest) (shelf : ShelfCall) (name : String Global) → IsExportStop request shelf (NotWritten name) → ⊥
stop_is_no_write request shelf name h = h

-- out-of-memory is never hidden
pub stop_tells_memory : (request : ExportRequest) (shelf : ShelfCall) (status : Status) → IsExportStop request shelf status → hides_memory status ≡ false
stop_tells_memory request shelf Done h = absurd h
stop_tells_memory request shelf (Words refusal) h = absurd h
stop_tells_memory request shelf StepOfNoGrid h = absurd h
stop_tells_memory request shelf (ReadFault i kind) h = refl
stop_tells_memory request shelf WriteFault h = absurd h
stop_tells_memory request shelf (NotWritten file) h = absurd h
stop_tells_memory request shelf (FileRefused i reason) h = absurd h
stop_tells_memory request shelf NoTriangles h = absurd h
stop_tells_memory request shelf NotAScene h = refl
stop_tells_memory request shelf (NotClosed o format) h = absurd h
stop_tells_memory request shelf (ExprRefused fault) h = absurd h
stop_tells_memory request shelf Unbounded h = absurd h
stop_tells_memory request shelf (LongFile i) h = refl
stop_tells_memory request shelf (TooManyTriangles count) h = absurd h
stop_tells_memory request shelf TooManyWritten h = refl
stop_tells_memory request shelf (StepTooSmall extent) h = absurd h
stop_tells_memory request shelf TooFar h = refl
stop_tells_memory request shelf (DocumentRefused document.NotADocument) h = refl
stop_tells_memory request shelf (DocumentRefused (document.OffPlane face)) h = refl
stop_tells_memory request shelf (DocumentRefused (document.OffEdge face)) h = refl
stop_tells_memory request shelf (DocumentRefused (document.NotRound face)) h = refl
stop_tells_memory request shelf (DocumentRefused document.OutOfMemory) h = absurd (h.is_fault.of_document refl)
stop_tells_memory request shelf (DocumentRefused (document.NoTables (table.NoLine face))) h = refl
stop_tells_memory request shelf (DocumentRefused (document.NoTables (table.NoCorner face))) h = refl
stop_tells_memory request shelf (DocumentRefused (document.NoTables table.TooMany)) h = refl
stop_tells_memory request shelf (DocumentRefused (document.NoTables table.OutOfMemory)) h = absurd (h.is_fault.is_fault.of_faces refl)
stop_tells_memory request shelf (DocumentRefused document.NotClosed) h = refl
stop_tells_memory request shelf (DocumentRefused document.Overlap) h = refl
stop_tells_memory request shelf (DocumentRefused (document.NotCut (mesh.UnknownPlane n))) h = refl
stop_tells_memory request shelf (DocumentRefused (document.NotCut (mesh.UnknownLine n))) h = refl
stop_tells_memory request shelf (DocumentRefused (document.NotCut (mesh.UnknownCorner n))) h = refl
stop_tells_memory request shelf (DocumentRefused (document.NotCut (mesh.Overlap plane line))) h = refl
stop_tells_memory request shelf (DocumentRefused (document.NotCut (mesh.NotClosed n))) h = refl
stop_tells_memory request shelf (DocumentRefused (document.NotCut (mesh.NoTriangles n))) h = refl
stop_tells_memory request shelf (DocumentRefused (document.NotCut mesh.NoEnd)) h = refl
stop_tells_memory request shelf (DocumentRefused (document.NotCut mesh.NoLineLeft)) h = refl
stop_tells_memory request shelf (DocumentRefused (document.NotCut mesh.NotCertified)) h = refl
stop_tells_memory request shelf (DocumentRefused (document.NotCut mesh.OutOfMemory)) h = absurd (h.is_fault.is_fault.of_triangles refl)
stop_tells_memory request shelf OutOfMemory h = refl
stop_tells_memory request shelf (Uncertified fault) h = absurd h
