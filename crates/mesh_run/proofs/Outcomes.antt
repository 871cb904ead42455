-- What comes of words
use Rattle.std.proofs.Common.{◌≡◌, ◌≤◌, inl, ℕ, Bool, List, sym, subst}
use Rattle.std.specs.Prelude.{Result, Ok, Err, None, false}
use Rattle.mesh_words.specs.declared.command.Command.{Command}
use Rattle.mesh_words.specs.declared.command.Command.TheVariants.{Boole, Snap, Export, Info, View, Help, Version}
use Rattle.mesh_words.specs.declared.faults.Refusal.{Refusal}
use Rattle.mesh_words.specs.Arguments.{words_ask_json}
use Rattle.mesh_words.specs.Commands.{command_of}
use Rattle.ember_io.specs.Calls.{ShelfCall, SinkCall, KeepsContents, TakesUntilFault}
use Rattle.mesh_run.specs.Calls.{TargetCall, HoldsAll}
use Rattle.mesh_refusal.specs.Said.{memory_said}
use Rattle.mesh_run.specs.Memory.{hides_memory}
use Rattle.mesh_run.specs.Serves.{IsOutcome, MeshServes}
use Rattle.mesh_refusal.specs.declared.status.Status.{Status}
use Rattle.mesh_refusal.specs.declared.status.Status.TheVariants.{OutOfMemory}

-- want of memory for the words themselves
pub words_without_memory : (json : Bool) (words : List (List ℕ)) (command : Result Command Refusal) (shelf : ShelfCall)
    (target : TargetCall) (out : SinkCall) (text : List ℕ) → HoldsAll target → out.taken_after ≡ out.taken →
    text ≡ memory_said json → IsOutcome json words command shelf target out OutOfMemory text
words_without_memory json words (Err why) shelf target out text same untouched e = (e, same, untouched)
words_without_memory json words (Ok (Info names)) shelf target out text same untouched e = ((tt, untouched, e), same)
words_without_memory json words (Ok (View request)) shelf target out text same untouched e = ((inl same, e), untouched)
words_without_memory json words (Ok (Snap request)) shelf target out text same untouched e = ((inl same, e), untouched)
words_without_memory json words (Ok (Export request)) shelf target out text same untouched e = (inl same, e, untouched)
words_without_memory json words (Ok Help) shelf target out text same untouched e = ((untouched, e), same)
words_without_memory json words (Ok Version) shelf target out text same untouched e = ((untouched, e), same)
words_without_memory json words (Ok (Boole request)) shelf target out text same untouched e = (inl same, e, untouched)

-- ---- calls
-- a call whose words give this command
pub call_serves : (json : Bool) (words : List (List ℕ)) (command : Result Command Refusal) (shelf : ShelfCall) (target : TargetCall)
    (out err : SinkCall) (status : Status) (text : List ℕ) → json ≡ words_ask_json words → command_of words ≡ command → KeepsContents shelf →
    target.begun ≡ None → target.faults ≤ target.faults_after → out.faults ≤ out.faults_after →
    IsOutcome json words command shelf target out status text → TakesUntilFault err text → hides_memory status ≡ false →
    MeshServes words shelf target out err status
call_serves json words command shelf target out err status text asks is contents begun later out_later outcome said memory = record {
  contents = contents;
  none_begun = begun;
  target_later = later;
  out_later = out_later;
  text = text;
  outcome =
      subst (λ (j : Bool). IsOutcome j words (command_of words) shelf target out status text) asks
      (subst (λ (c : Result Command Refusal). IsOutcome json words c shelf target out status text) (sym is) outcome);
  said = said;
  memory = memory;
}
