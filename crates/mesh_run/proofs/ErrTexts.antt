-- A text that a sink takes up to its first fault
use Rattle.std.proofs.Common.{ℕ, List, [], Result, Ok, Err, sym}
use Rattle.std.proofs.lemmas.List.{append-nil}
use Rattle.std.specs.declared.option.Option.{Option}
use Rattle.std.specs.Io.KnownBytes.{Appends}
use Rattle.std.specs.Prelude.{OnOk, OnErr}
use Rattle.ember_io.specs.Causes.{HasCause}
use Rattle.ember_io.specs.Sinks.{AppendsPrefix}
use Rattle.ember_io.specs.Calls.{SinkCall, TakesUntilFault}

-- a text that was taken whole was taken up to its end
whole_prefix : (old new : Option (List ℕ)) (text : List ℕ) → Appends old new text → AppendsPrefix old new text
whole_prefix old new text h = (text, [], sym (append-nil text), h)

-- what writing a text to a sink leaves
pub text_is_taken : {X E : Type 0} (sink : SinkCall) (text : List ℕ) (result : Result X E) →
    HasCause sink.faults sink.faults_after result → OnOk result (Appends sink.taken sink.taken_after text) →
    OnErr result (AppendsPrefix sink.taken sink.taken_after text) → TakesUntilFault sink text
text_is_taken sink text (Ok x) cause taken prefix =
    record { later = cause.later; prefix = whole_prefix sink.taken sink.taken_after text taken; whole = λ calm. taken }
text_is_taken sink text (Err e) cause taken prefix =
    record { later = cause.later; prefix = prefix; whole = λ calm. absurd (calm cause.failed) }
