-- What a call saw of a shelf and of a sink, before and after it
use denote.Triple.Both.{Both}
use Rattle.std.specs.Prelude.{◌≡◌, ℕ, ◌≤◌, List}
use Rattle.std.specs.Borrow.{MutBor}
use Rattle.std.specs.declared.option.Option.{Option}
use Rattle.std.specs.Io.KnownBytes.{Appends}
use Rattle.ember_io.specs.Causes.{HasRisen}
use Rattle.ember_io.specs.Sinks.{AppendsPrefix, IsFlushed}
use Rattle.ember_io.specs.declared.shelf.FaultKind.{FaultKind}
use Rattle.ember_io.specs.declared.shelf.Shelf
use Rattle.ember_io.specs.declared.sink.Sink

-- what a call saw of a shelf
pub record ShelfCall : Type 0 where
  -- the contents of the file with each name, if they are told
  pub told : List ℕ → Option (List ℕ)
  pub told_after : List ℕ → Option (List ℕ)
  -- how often it had failed
  pub faults : ℕ
  pub faults_after : ℕ
  -- the number of the file at which the last fault occurred, and of which kind it was
  pub fault_at : ℕ
  pub fault_kind : FaultKind

-- what a call saw of a sink
pub record SinkCall : Type 0 where
  -- the bytes that it had taken, if they are told
  pub taken : Option (List ℕ)
  pub taken_after : Option (List ℕ)
  -- how many of them are flushed after the call
  pub flushed_after : ℕ
  -- how often it had failed
  pub faults : ℕ
  pub faults_after : ℕ

-- ---- the calls, by what contracts see of a device
abbrev pub shelf_call : {S : Type 0} → (S → List ℕ → Option (List ℕ)) → (S → ℕ) → (S → ℕ) →
    (S → FaultKind) → S → S → ShelfCall
shelf_call contents faults fault_at fault_kind old new =
    record {
      told = contents old;
      told_after = contents new;
      faults = faults old;
      faults_after = faults new;
      fault_at = fault_at new;
      fault_kind = fault_kind new;
    }

abbrev pub sink_call : {O : Type 0} → (O → Option (List ℕ)) → (O → ℕ) → (O → ℕ) → O → O → SinkCall
sink_call taken flushed faults old new =
    record {
      taken = taken old;
      taken_after = taken new;
      flushed_after = flushed new;
      faults = faults old;
      faults_after = faults new;
    }

-- ---- the same in a clause, by the device's trait and by the parameter itself
-- a `&mut` parameter in a clause: as the call begins (`entry`), and as it ends (`exit`)
abbrev pub MutParameter : Type 0 → Type 0
MutParameter A = Both (MutBor A) (MutBor A)

-- what the call saw of this shelf
abbrev pub shelf_seen : {S : Type 0} → Shelf.Ghosts S → MutParameter S → ShelfCall
shelf_seen shown shelf =
    shelf_call shown.contents shown.faults shown.fault_at shown.fault_kind shelf.entry.now shelf.exit.now

-- what the call saw of this sink
abbrev pub sink_seen : {O : Type 0} → Sink.Ghosts O → MutParameter O → SinkCall
sink_seen shown sink = sink_call shown.taken shown.flushed shown.faults sink.entry.now sink.exit.now

-- ---- shelves
-- it has what it had, and its count of faults hasn't fallen
pub record KeepsContents (shelf : ShelfCall) : Type 0 where
  pub same : shelf.told_after ≡ shelf.told
  pub later : shelf.faults ≤ shelf.faults_after

-- it failed during the call
abbrev pub HasShelfFailed : ShelfCall → Type 0
HasShelfFailed shelf = HasRisen shelf.faults shelf.faults_after

-- ---- sinks
-- it failed during the call
abbrev pub HasSinkFailed : SinkCall → Type 0
HasSinkFailed sink = HasRisen sink.faults sink.faults_after

-- it took the whole text and flushed it
pub record TakesAll (sink : SinkCall) (text : List ℕ) : Type 0 where
  pub taken : Appends sink.taken sink.taken_after text
  pub flushed : IsFlushed sink.taken_after sink.flushed_after

-- it failed, and took a prefix of the text
pub record TakesSome (sink : SinkCall) (text : List ℕ) : Type 0 where
  pub failed : HasSinkFailed sink
  pub prefix : AppendsPrefix sink.taken sink.taken_after text

-- it took the text up to its first fault
pub record TakesUntilFault (sink : SinkCall) (text : List ℕ) : Type 0 where
  pub later : sink.faults ≤ sink.faults_after
  pub prefix : AppendsPrefix sink.taken sink.taken_after text
  pub whole : ¬ HasSinkFailed sink → Appends sink.taken sink.taken_after text
