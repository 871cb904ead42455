-- Why meshes aren't put on their grid, step by step
use Rattle.std.proofs.Common.{◌≡◌, [], false, inl, refl}
use Rattle.std.specs.declared.alloc.Global.{Global}
use Rattle.std.specs.Prelude.{String}
use Rattle.mesh_grid.specs.declared.grid.choice.Wanted.{Wanted}
use Rattle.mesh_words.specs.declared.command.SnapRequest.{SnapRequest}
use Rattle.mesh_run.specs.Asked.{IsWanted}
use Rattle.ember_io.specs.Calls.{ShelfCall}
use Rattle.mesh_run.specs.Causes.{IsPlacingCause, IsReadingCause, IsSnapStop}
use Rattle.mesh_run.specs.Memory.{hides_memory}
use Rattle.mesh_refusal.specs.declared.status.Status.{Status}
use Rattle.mesh_refusal.specs.declared.status.Status.TheVariants.{Done, Words, StepOfNoGrid, ReadFault, WriteFault}
use Rattle.mesh_refusal.specs.declared.status.Status.TheVariants.{NotWritten, FileRefused, NoTriangles, NotAScene}
use Rattle.mesh_refusal.specs.declared.status.Status.TheVariants.{NotClosed, ExprRefused, Unbounded, LongFile}
use Rattle.mesh_refusal.specs.declared.status.Status.TheVariants.{TooManyTriangles, TooManyWritten, StepTooSmall}
use Rattle.mesh_refusal.specs.declared.status.Status.TheVariants.{TooFar, DocumentRefused, OutOfMemory, Uncertified}

module _ (request : SnapRequest) (shelf : ShelfCall) (wanted : Wanted) (asks : IsWanted request.step wanted) where
  -- not all of its files are read
  pub reading_stop : (status : Status) → IsReadingCause request.files shelf status → IsSnapStop request shelf status
  reading_stop Done h = absurd h
  reading_stop (Words refusal) h = absurd h
  reading_stop StepOfNoGrid h = absurd h
  reading_stop (ReadFault i kind) h = record { wanted = wanted; asks = asks; cause = h }
  reading_stop WriteFault h = absurd h
  reading_stop (NotWritten file) h = absurd h
  reading_stop (FileRefused i reason) h = record { wanted = wanted; asks = asks; cause = inl h }
  reading_stop NoTriangles h = absurd h
  reading_stop NotAScene h = absurd h
  reading_stop (NotClosed o format) h = absurd h
  reading_stop (ExprRefused fault) h = absurd h
  reading_stop Unbounded h = absurd h
  reading_stop (LongFile i) h = record { wanted = wanted; asks = asks; cause = h }
  reading_stop (TooManyTriangles count) h = absurd h
  reading_stop TooManyWritten h = absurd h
  reading_stop (StepTooSmall extent) h = absurd h
  reading_stop TooFar h = absurd h
  reading_stop (DocumentRefused fault) h = absurd h
  reading_stop OutOfMemory h = tt
  reading_stop (Uncertified fault) h = absurd h

  -- all its files are read, but aren't put on the grid
  pub placing_stop : (status : Status) → IsPlacingCause shelf.told request.files [] wanted status → IsSnapStop request shelf status
  placing_stop Done h = absurd h
  placing_stop (Words refusal) h = absurd h
  placing_stop StepOfNoGrid h = absurd h
  placing_stop (ReadFault i kind) h = absurd h
  placing_stop WriteFault h = absurd h
  placing_stop (NotWritten file) h = absurd h
  placing_stop (FileRefused i reason) h = record { wanted = wanted; asks = asks; cause = h }
  placing_stop NoTriangles h = record { wanted = wanted; asks = asks; cause = h }
  placing_stop NotAScene h = absurd h
  placing_stop (NotClosed o format) h = record { wanted = wanted; asks = asks; cause = h }
  placing_stop (ExprRefused fault) h = absurd h
  placing_stop Unbounded h = absurd h
  placing_stop (LongFile i) h = absurd h
  placing_stop (TooManyTriangles count) h = record { wanted = wanted; asks = asks; cause = h }
  placing_stop TooManyWritten h = absurd h
  placing_stop (StepTooSmall extent) h = record { wanted = wanted; asks = asks; cause = h }
  placing_stop TooFar h = absurd h
  placing_stop (DocumentRefused fault) h = absurd h
  placing_stop OutOfMemory h = tt
  placing_stop (Uncertified fault) h = absurd h

-- that a file isn't written is no reason
pub stop_is_no_write : (request : SnapRequest) (shelf : ShelfCall) (name : String Global) → IsSnapStop request shelf (NotWritten name) → ⊥
stop_is_no_write request shelf name h = h.cause

-- out-of-memory is never hidden
pub stop_tells_memory : (request : SnapRequest) (shelf : ShelfCall) (status : Status) → IsSnapStop request shelf status → hides_memory status ≡ false
stop_tells_memory request shelf Done h = refl
stop_tells_memory request shelf (Words refusal) h = refl
stop_tells_memory request shelf StepOfNoGrid h = refl
stop_tells_memory request shelf (ReadFault i kind) h = refl
stop_tells_memory request shelf WriteFault h = refl
stop_tells_memory request shelf (NotWritten file) h = refl
stop_tells_memory request shelf (FileRefused i reason) h = refl
stop_tells_memory request shelf NoTriangles h = refl
stop_tells_memory request shelf NotAScene h = refl
stop_tells_memory request shelf (NotClosed o format) h = refl
stop_tells_memory request shelf (ExprRefused fault) h = absurd h.cause
stop_tells_memory request shelf Unbounded h = refl
stop_tells_memory request shelf (LongFile i) h = refl
stop_tells_memory request shelf (TooManyTriangles count) h = refl
stop_tells_memory request shelf TooManyWritten h = refl
stop_tells_memory request shelf (StepTooSmall extent) h = refl
stop_tells_memory request shelf TooFar h = refl
stop_tells_memory request shelf (DocumentRefused fault) h = absurd h.cause
stop_tells_memory request shelf OutOfMemory h = refl
stop_tells_memory request shelf (Uncertified fault) h = absurd h.cause
