-- Why a request gets no output, step by step
use Rattle.std.proofs.Common.{◌≡◌, false, inl, refl}
use Rattle.ember_expr.specs.declared.fault.ExprFault.TheVariants as expr
use Rattle.ember_expr.specs.Formula.{Formula}
use Rattle.mesh_boolean.specs.declared.wanted.WantedFile.{WantedFile}
use Rattle.mesh_words.specs.declared.command.Request.{Request}
use Rattle.mesh_solid.specs.declared.mesh.fault.SolidFault.TheVariants as solid
use Rattle.mesh_solid.specs.declared.tables.fault.TableFault.TheVariants as table
use Rattle.mesh_triangles.specs.declared.fault.TrianglesFault.TheVariants as mesh
use Rattle.mesh_run.specs.Asked.{Asks, IsWordsCause}
use Rattle.ember_io.specs.Calls.{ShelfCall}
use Rattle.mesh_run.specs.Causes.{IsAskedCause, IsFilesCause, IsReadingCause, IsStop}
use Rattle.mesh_run.specs.Memory.{hides_memory}
use Rattle.mesh_refusal.specs.declared.status.Status.{Status}
use Rattle.mesh_refusal.specs.declared.status.Status.TheVariants.{Done, Words, StepOfNoGrid, ReadFault, WriteFault}
use Rattle.mesh_refusal.specs.declared.status.Status.TheVariants.{NotWritten, FileRefused, NoTriangles, NotAScene}
use Rattle.mesh_refusal.specs.declared.status.Status.TheVariants.{NotClosed, ExprRefused, Unbounded, LongFile}
use Rattle.mesh_refusal.specs.declared.status.Status.TheVariants.{TooManyTriangles, TooManyWritten, StepTooSmall}
use Rattle.mesh_refusal.specs.declared.status.Status.TheVariants.{TooFar, DocumentRefused, OutOfMemory, Uncertified}

-- a request whose words or expression are refused
pub words_stop : (request : Request) (shelf : ShelfCall) (status : Status) → IsWordsCause request status → IsStop request shelf status
words_stop request shelf Done h = absurd h.2
words_stop request shelf (Words refusal) h = absurd h.2
words_stop request shelf StepOfNoGrid h = h
words_stop request shelf (ReadFault i kind) h = absurd h.2
words_stop request shelf WriteFault h = absurd h.2
words_stop request shelf (NotWritten file) h = absurd h.2
words_stop request shelf (FileRefused i reason) h = absurd h.2
words_stop request shelf NoTriangles h = absurd h.2
words_stop request shelf NotAScene h = absurd h.2
words_stop request shelf (NotClosed o format) h = absurd h.2
words_stop request shelf (ExprRefused fault) h = h
words_stop request shelf Unbounded h = h
words_stop request shelf (LongFile i) h = absurd h.2
words_stop request shelf (TooManyTriangles count) h = absurd h.2
words_stop request shelf TooManyWritten h = absurd h.2
words_stop request shelf (StepTooSmall extent) h = absurd h.2
words_stop request shelf TooFar h = absurd h.2
words_stop request shelf (DocumentRefused fault) h = absurd h.2
words_stop request shelf OutOfMemory h = tt
words_stop request shelf (Uncertified fault) h = absurd h.2

module _ (request : Request) (shelf : ShelfCall) (formula : Formula) (wanted : WantedFile) (asks : Asks request wanted formula) where
  -- a request that asks for something, but gets no output
  pub asked_stop : (status : Status) → IsAskedCause request formula wanted shelf status → IsStop request shelf status
  asked_stop Done h = absurd h
  asked_stop (Words refusal) h = absurd h
  asked_stop StepOfNoGrid h = absurd h
  asked_stop (ReadFault i kind) h = record { wanted = wanted; formula = formula; asks = asks; cause = h }
  asked_stop WriteFault h = absurd h
  asked_stop (NotWritten file) h = absurd h
  asked_stop (FileRefused i reason) h = record { wanted = wanted; formula = formula; asks = asks; cause = h }
  asked_stop NoTriangles h = record { wanted = wanted; formula = formula; asks = asks; cause = h }
  asked_stop NotAScene h = absurd h
  asked_stop (NotClosed o format) h = record { wanted = wanted; formula = formula; asks = asks; cause = h }
  asked_stop (ExprRefused fault) h = absurd h
  asked_stop Unbounded h = absurd h
  asked_stop (LongFile i) h = record { wanted = wanted; formula = formula; asks = asks; cause = h }
  asked_stop (TooManyTriangles count) h = record { wanted = wanted; formula = formula; asks = asks; cause = h }
  asked_stop TooManyWritten h = record { wanted = wanted; formula = formula; asks = asks; cause = h }
  asked_stop (StepTooSmall extent) h = record { wanted = wanted; formula = formula; asks = asks; cause = h }
  asked_stop TooFar h = record { wanted = wanted; formula = formula; asks = asks; cause = h }
  asked_stop (DocumentRefused fault) h = absurd h
  asked_stop OutOfMemory h = tt
  asked_stop (Uncertified fault) h = record { wanted = wanted; formula = formula; asks = asks; cause = h }

  -- not all of its files are read
  pub reading_stop : (status : Status) → IsReadingCause request.files shelf status → IsStop request shelf status
  reading_stop Done h = absurd h
  reading_stop (Words refusal) h = absurd h
  reading_stop StepOfNoGrid h = absurd h
  reading_stop (ReadFault i kind) h = asked_stop (ReadFault i kind) h
  reading_stop WriteFault h = absurd h
  reading_stop (NotWritten file) h = absurd h
  reading_stop (FileRefused i reason) h = asked_stop (FileRefused i reason) (inl h)
  reading_stop NoTriangles h = absurd h
  reading_stop NotAScene h = absurd h
  reading_stop (NotClosed o format) h = absurd h
  reading_stop (ExprRefused fault) h = absurd h
  reading_stop Unbounded h = absurd h
  reading_stop (LongFile i) h = asked_stop (LongFile i) h
  reading_stop (TooManyTriangles count) h = absurd h
  reading_stop TooManyWritten h = absurd h
  reading_stop (StepTooSmall extent) h = absurd h
  reading_stop TooFar h = absurd h
  reading_stop (DocumentRefused fault) h = absurd h
  reading_stop OutOfMemory h = tt
  reading_stop (Uncertified fault) h = absurd h

  -- all its files are read, but have no output
  pub files_stop : (status : Status) → IsFilesCause shelf.told request.files formula wanted status → IsStop request shelf status
  files_stop Done h = absurd h
  files_stop (Words refusal) h = absurd h
  files_stop StepOfNoGrid h = absurd h
  files_stop (ReadFault i kind) h = absurd h
  files_stop WriteFault h = absurd h
  files_stop (NotWritten file) h = absurd h
  files_stop (FileRefused i reason) h = asked_stop (FileRefused i reason) h
  files_stop NoTriangles h = asked_stop NoTriangles h
  files_stop NotAScene h = absurd h
  files_stop (NotClosed o format) h = asked_stop (NotClosed o format) h
  files_stop (ExprRefused fault) h = absurd h
  files_stop Unbounded h = absurd h
  files_stop (LongFile i) h = absurd h
  files_stop (TooManyTriangles count) h = asked_stop (TooManyTriangles count) h
  files_stop TooManyWritten h = asked_stop TooManyWritten h
  files_stop (StepTooSmall extent) h = asked_stop (StepTooSmall extent) h
  files_stop TooFar h = asked_stop TooFar h
  files_stop (DocumentRefused fault) h = absurd h
  files_stop OutOfMemory h = tt
  files_stop (Uncertified fault) h = asked_stop (Uncertified fault) h

-- ---- out-of-memory is never hidden
pub stop_tells_memory : (request : Request) (shelf : ShelfCall) (status : Status) → IsStop request shelf status → hides_memory status ≡ false
stop_tells_memory request shelf Done h = absurd h
stop_tells_memory request shelf (Words refusal) h = absurd h
stop_tells_memory request shelf StepOfNoGrid h = refl
stop_tells_memory request shelf (ReadFault i kind) h = refl
stop_tells_memory request shelf WriteFault h = absurd h
stop_tells_memory request shelf (NotWritten file) h = absurd h
stop_tells_memory request shelf (FileRefused i reason) h = refl
stop_tells_memory request shelf NoTriangles h = refl
stop_tells_memory request shelf NotAScene h = absurd h.cause
stop_tells_memory request shelf (NotClosed o format) h = refl
stop_tells_memory request shelf (ExprRefused (expr.Syntax place)) h = refl
stop_tells_memory request shelf (ExprRefused (expr.Deep place)) h = refl
stop_tells_memory request shelf (ExprRefused (expr.NoMesh n)) h = refl
stop_tells_memory request shelf (ExprRefused (expr.Number place)) h = refl
stop_tells_memory request shelf (ExprRefused expr.Long) h = refl
stop_tells_memory request shelf (ExprRefused expr.OutOfMemory) h = absurd (h.2.1 refl)
stop_tells_memory request shelf Unbounded h = refl
stop_tells_memory request shelf (LongFile i) h = refl
stop_tells_memory request shelf (TooManyTriangles count) h = refl
stop_tells_memory request shelf TooManyWritten h = refl
stop_tells_memory request shelf (StepTooSmall extent) h = refl
stop_tells_memory request shelf TooFar h = refl
stop_tells_memory request shelf (DocumentRefused fault) h = absurd h.cause
stop_tells_memory request shelf OutOfMemory h = refl
stop_tells_memory request shelf (Uncertified solid.OutOfMemory) h = absurd (h.cause.is_fault.of_solid refl)
stop_tells_memory request shelf (Uncertified (solid.NoTables (table.NoLine face))) h = refl
stop_tells_memory request shelf (Uncertified (solid.NoTables (table.NoCorner face))) h = refl
stop_tells_memory request shelf (Uncertified (solid.NoTables table.TooMany)) h = refl
stop_tells_memory request shelf (Uncertified (solid.NoTables table.OutOfMemory)) h = absurd (h.cause.is_fault.is_fault.2.of_faces refl)
stop_tells_memory request shelf (Uncertified (solid.NotCut (mesh.UnknownPlane n))) h = refl
stop_tells_memory request shelf (Uncertified (solid.NotCut (mesh.UnknownLine n))) h = refl
stop_tells_memory request shelf (Uncertified (solid.NotCut (mesh.UnknownCorner n))) h = refl
stop_tells_memory request shelf (Uncertified (solid.NotCut (mesh.Overlap plane line))) h = refl
stop_tells_memory request shelf (Uncertified (solid.NotCut (mesh.NotClosed n))) h = refl
stop_tells_memory request shelf (Uncertified (solid.NotCut (mesh.NoTriangles n))) h = refl
stop_tells_memory request shelf (Uncertified (solid.NotCut mesh.NoEnd)) h = refl
stop_tells_memory request shelf (Uncertified (solid.NotCut mesh.NoLineLeft)) h = refl
stop_tells_memory request shelf (Uncertified (solid.NotCut mesh.NotCertified)) h = refl
stop_tells_memory request shelf (Uncertified (solid.NotCut mesh.OutOfMemory)) h = absurd (h.cause.is_fault.is_fault.2.of_triangles refl)
