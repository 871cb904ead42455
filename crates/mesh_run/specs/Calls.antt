-- What a call saw of its target, and of all its devices, before and after it
use Rattle.std.specs.Prelude.{ℕ, List}
use Rattle.std.specs.declared.option.Option.{Option}
use Rattle.ember_io.specs.Calls.{MutParameter, ShelfCall, SinkCall, TakesUntilFault, shelf_seen, sink_seen}
use Rattle.ember_io.specs.declared.shelf.Shelf
use Rattle.ember_io.specs.declared.sink.Sink
use Rattle.mesh_outside.specs.Target.Targets.{Names, HoldsSame}
use Rattle.mesh_outside.specs.declared.target.target.Target

-- what a call saw of a target
pub record TargetCall : Type 0 where
  -- what each name holds, if this is told
  pub held : Option Names
  pub held_after : Option Names
  -- the name of the new file after the call, if one is begun
  pub begun : Option (List ℕ)
  -- how often it had failed
  pub faults : ℕ
  pub faults_after : ℕ

-- the call, by what contracts see of a target
abbrev pub target_call : {T : Type 0} → (T → Option Names) → (T → Option (List ℕ)) → (T → ℕ) → T → T → TargetCall
target_call held begun faults old new =
    record {
      held = held old;
      held_after = held new;
      begun = begun new;
      faults = faults old;
      faults_after = faults new;
    }

-- what the call saw of this target, in a clause
abbrev pub target_seen : {T : Type 0} → Target.Ghosts T → MutParameter T → TargetCall
target_seen shown target = target_call shown.held shown.begun shown.faults target.entry.now target.exit.now

-- each name holds what it held
abbrev pub HoldsAll : TargetCall → Type 0
HoldsAll target = HoldsSame target.held target.held_after

-- ---- several devices
-- what a call saw of the files that it reads, and of those that it writes
pub record FilesCall : Type 0 where
  pub shelf : ShelfCall
  pub target : TargetCall

-- what a call saw of standard output and standard error
pub record StreamsCall : Type 0 where
  pub out : SinkCall
  pub err : SinkCall

-- what a call saw of all its devices
pub record DevicesCall : Type 0 where
  pub files : FilesCall
  pub streams : StreamsCall

-- ---- the same in a clause
abbrev pub files_seen : {S T : Type 0} → Shelf.Ghosts S → Target.Ghosts T → MutParameter S → MutParameter T → FilesCall
files_seen S T shelf target = record { shelf = shelf_seen S shelf; target = target_seen T target }

abbrev pub streams_seen : {O E : Type 0} → Sink.Ghosts O → Sink.Ghosts E → MutParameter O → MutParameter E → StreamsCall
streams_seen O E out err = record { out = sink_seen O out; err = sink_seen E err }

abbrev pub devices : {S T O E : Type 0} → Shelf.Ghosts S → Target.Ghosts T → Sink.Ghosts O → Sink.Ghosts E →
    MutParameter S → MutParameter T → MutParameter O → MutParameter E → DevicesCall
devices S T O E shelf target out err =
    record { files = files_seen S T shelf target; streams = streams_seen O E out err }

-- ---- messages
-- err takes a text with this property, up to its first fault
abbrev pub IsSaid : SinkCall → (List ℕ → Type 0) → Type 0
IsSaid err Is = (text : List ℕ) × Is text × TakesUntilFault err text
