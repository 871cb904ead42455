-- What a sink for messages took
use Rattle.std.specs.Prelude.{ℕ, ◌≤◌, List}
use Rattle.std.specs.declared.option.Option.{Option}
use Rattle.std.specs.Io.KnownBytes.{Appends}
use Rattle.ember_io.specs.Calls.{SinkCall}
use Rattle.ember_io.specs.Causes.{HasRisen}
use Rattle.ember_io.specs.Sinks.{AppendsPrefix}

-- it took a prefix of the text, and all of it if its count of faults didn't rise
pub record AppendsUntilFault (faults_before faults_now : ℕ) (old new : Option (List ℕ)) (text : List ℕ) : Type 0 where
  pub later : faults_before ≤ faults_now
  pub prefix : AppendsPrefix old new text
  pub whole : ¬ HasRisen faults_before faults_now → Appends old new text

-- a call wrote this text to the sink, up to its first fault
abbrev pub Says : SinkCall → List ℕ → Type 0
Says err text = AppendsUntilFault err.faults err.faults_after err.taken err.taken_after text
