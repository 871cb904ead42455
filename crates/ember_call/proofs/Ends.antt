-- How a call of `ember` ends over lent files, if no memory was lacking
use Rattle.std.proofs.Common.{◌≡◌, ◌≢◌, ◌<◌, ℕ, List, [], map, Some, sym, ap, ◌∙◌, subst, arith, unwrap_or, inl, inr}
use Rattle.std.specs.declared.option.Option.{Option}
use Rattle.ember_io.specs.declared.shelf.FaultKind.TheVariants.{NotFound}
use Rattle.ember_run.specs.Serves.{Serves}
use Rattle.ember_io.specs.Calls.{ShelfCall, SinkCall, shelf_call, sink_call}
use Rattle.ember_verdict.specs.Lines.{number_of}
use Rattle.ember_verdict.specs.Statuses.{IsText}
use Rattle.ember_verdict.specs.Verdict.{names_of, told_verdict, verdict_of}
use Rattle.ember_verdict.specs.declared.status.Status.{Status}
use Rattle.ember_verdict.specs.declared.status.Status.TheVariants as status
use Rattle.ember_words.specs.declared.command.Command.{Command}
use Rattle.ember_words.specs.WordsCommand.{command_of}
use Rattle.ember_call.specs.declared.outcome.Outcome.{Outcome}
use Rattle.ember_call.specs.Calls.{EndsWith, IsOutcome, IsOutcomeWith, IsWhole, shelf_over, sink_with}
use Rattle.ember_call.specs.Lent.{LentState, contents_of}
use Rattle.ember_call.specs.Taken.{GrownState}
use Rattle.ember_call.proofs.Known.{AreThere, contents_are_known, is_done, named_files_are_there}

-- a sink that took these bytes, and failed as often as this
abbrev pub sink_after : List ℕ → ℕ → ℕ → SinkCall
sink_after bytes flushed faults = record {
  taken = Some [];
  taken_after = Some bytes;
  flushed_after = flushed;
  faults = 0;
  faults_after = faults;
}

-- ---- the devices of a call
-- a shelf of these files, and a sink, that nobody has called
abbrev pub new_shelf : List (List ℕ × List ℕ) → LentState
new_shelf files = record { files = files; unread = []; begun = 0; fault_at = 0; faults = 0 }

abbrev pub new_sink : GrownState
new_sink = record { bytes = []; flushed = 0; faults = 0 }

-- what a call saw of them
abbrev pub lent_call : LentState → LentState → ShelfCall
lent_call old new =
    shelf_call (λ (s : LentState). contents_of s.files) (λ (s : LentState). s.faults) (λ (s : LentState). s.fault_at)
    (λ (s : LentState). NotFound) old new

abbrev pub grown_call : GrownState → GrownState → SinkCall
grown_call old new =
    sink_call (λ (s : GrownState). Some s.bytes) (λ (s : GrownState). s.flushed) (λ (s : GrownState). s.faults) old new

-- what is promised of devices that had no fault, and of a shelf that has what it had
pub serves_over : (command : Option Command) (files : List (List ℕ × List ℕ)) (after : List ℕ → Option (List ℕ)) (faults fault_at : ℕ)
    (out err : List ℕ) (out_flushed err_flushed out_faults err_faults : ℕ) (s : Status) → out_faults ≡ 0 → err_faults ≡ 0
    → Serves command (record { told = contents_of files; told_after = after; faults = 0; faults_after = faults; fault_at = fault_at; fault_kind = NotFound })
    (sink_after out out_flushed out_faults) (sink_after err err_flushed err_faults) s
    → Serves command (shelf_over files faults fault_at) (sink_with out out_flushed) (sink_with err err_flushed) s
serves_over command files after faults fault_at out err out_flushed err_flushed out_faults err_faults s o e h =
    subst (λ n. Serves command (shelf_over files faults fault_at) (sink_with out out_flushed) (sink_after err err_flushed n) s) e
    (subst (λ n. Serves command (shelf_over files faults fault_at) (sink_after out out_flushed n) (sink_after err err_flushed err_faults) s) o
    (subst (λ told. Serves command (record { told = contents_of files; told_after = told; faults = 0; faults_after = faults; fault_at = fault_at; fault_kind = NotFound })
    (sink_after out out_flushed out_faults) (sink_after err err_flushed err_faults) s) h.contents h))

-- a call over new devices whose sinks had no fault has this outcome
whole_outcome : (words : List (List ℕ)) (files : List (List ℕ × List ℕ)) (outcome : Outcome) (s : Status)
    (shelf after : LentState) (out out_after err err_after : GrownState) → shelf ≡ new_shelf files → out ≡ new_sink → err ≡ new_sink →
    Serves (command_of words) (lent_call shelf after) (grown_call out out_after) (grown_call err err_after) s →
    IsWhole s out_after err_after outcome → IsOutcome words files outcome
whole_outcome words files outcome s shelf after out out_after err err_after e f g serves is =
    let of_shelf = subst (λ (it : LentState). Serves (command_of words) (lent_call it after) (grown_call out out_after)
    (grown_call err err_after) s) e serves in
    let of_out = subst (λ (it : GrownState). Serves (command_of words) (lent_call (new_shelf files) after) (grown_call it out_after)
    (grown_call err err_after) s) f of_shelf in
    let of_err = subst (λ (it : GrownState). Serves (command_of words) (lent_call (new_shelf files) after) (grown_call new_sink out_after)
    (grown_call it err_after) s) g of_out in
    let over = serves_over (command_of words) files (contents_of after.files) after.faults after.fault_at out_after.bytes err_after.bytes
    out_after.flushed err_after.flushed out_after.faults err_after.faults s is.no_fault is.none_of_err of_err in
    let with_taken = subst (λ (bytes : List ℕ). Serves (command_of words) (shelf_over files after.faults after.fault_at)
    (sink_with bytes out_after.flushed) (sink_with err_after.bytes err_after.flushed) s) (sym is.taken) over in
    inl (
      s,
      record {
        number = is.number;
        file = is.file;
        place = is.place;
        faults = after.faults;
        fault_at = after.fault_at;
        out_flushed = out_after.flushed;
        err_flushed = err_after.flushed;
        serves = subst (λ (bytes : List ℕ). Serves (command_of words) (shelf_over files after.faults after.fault_at)
            (sink_with outcome.out.items out_after.flushed) (sink_with bytes err_after.flushed) s) (sym is.said) with_taken;
      },
    )

-- a call over new devices has an outcome
pub call_has_outcome : (words : List (List ℕ)) (files : List (List ℕ × List ℕ)) (outcome : Outcome) (s : Status)
    (shelf after : LentState) (out out_after err err_after : GrownState) → shelf ≡ new_shelf files → out ≡ new_sink → err ≡ new_sink →
    Serves (command_of words) (lent_call shelf after) (grown_call out out_after) (grown_call err err_after) s →
    IsOutcomeWith s out_after err_after outcome → IsOutcome words files outcome
call_has_outcome words files outcome s shelf after out out_after err err_after e f g serves (inl is) =
    whole_outcome words files outcome s shelf after out out_after err err_after e f g serves is
call_has_outcome words files outcome s shelf after out out_after err err_after e f g serves (inr lacks) = inr (inl lacks)

-- with status 0 the output is that of the verdict
done_has_text : (words : List (List ℕ)) (files : List (List ℕ × List ℕ)) (outcome : Outcome) (s : Status) → EndsWith words files s outcome →
    s ≡ status.Done → IsText (told_verdict (command_of words) (contents_of files)) outcome.out.items
done_has_text words files outcome s ends is =
    let read = ends.serves.done_read is in
    subst (λ contents. IsText (verdict_of (command_of words) contents) outcome.out.items)
    (contents_are_known files (names_of (command_of words)) read.0 read.1)
    (subst (λ bytes. IsText (verdict_of (command_of words) (map (λ bytes. Some bytes) read.0)) bytes) (sym read.2.2) read.2.1)

-- ---- outcomes
-- with status 0 all files are there, and the output is theirs
pub outcome_has_text : (words : List (List ℕ)) (files : List (List ℕ × List ℕ)) (outcome : Outcome) → IsOutcome words files outcome →
    outcome.status ≡ 0 → IsText (told_verdict (command_of words) (contents_of files)) outcome.out.items
outcome_has_text words files outcome (inl (s, ends)) is_zero = done_has_text words files outcome s ends (is_done s (sym ends.number ∙ is_zero))
outcome_has_text words files outcome (inr (inl lacks)) is_zero = absurd (omega (arith, lacks.status, is_zero))
outcome_has_text words files outcome (inr (inr lacks)) is_zero = absurd (omega (arith, lacks.0.status, is_zero))

pub outcome_has_files : (words : List (List ℕ)) (files : List (List ℕ × List ℕ)) (outcome : Outcome) → IsOutcome words files outcome →
    outcome.status ≡ 0 → AreThere files (names_of (command_of words))
outcome_has_files words files outcome is is_zero =
    named_files_are_there files (command_of words) outcome.out.items (outcome_has_text words files outcome is is_zero)

-- with another status nothing is written
untouched : (words : List (List ℕ)) (files : List (List ℕ × List ℕ)) (outcome : Outcome) (s : Status) → EndsWith words files s outcome →
    s ≢ status.Done → s ≢ status.WriteFault → outcome.out.items ≡ []
untouched words files outcome s ends n w = ap (λ o. unwrap_or o []) (ends.serves.untouched n w)

pub outcome_is_empty : (words : List (List ℕ)) (files : List (List ℕ × List ℕ)) (outcome : Outcome) → IsOutcome words files outcome →
    outcome.status ≢ 0 → outcome.out.items ≡ []
outcome_is_empty words files outcome (inl (s, ends)) n =
    untouched words files outcome s ends (λ is. n (ends.number ∙ ap number_of is))
    (λ is. absurd (omega (arith, (ends.serves.write_fault is).0)))
outcome_is_empty words files outcome (inr (inl lacks)) n = lacks.out
outcome_is_empty words files outcome (inr (inr lacks)) n = lacks.0.out
