-- How a call of `ember-mesh` ends over lent files, if no memory was lacking
use Rattle.std.proofs.Common.{◌≡◌, ◌≢◌, ◌<◌, Bool, ℕ, List, [], Some, None, Ok, refl, sym, ap, ◌∙◌, subst, arith, unwrap_or, inl, inr}
use Rattle.std.specs.Prelude.{Vec}
use Rattle.std.specs.declared.alloc.Global.{Global}
use Rattle.std.specs.declared.option.Option.{Option}
use Rattle.ember_io.specs.declared.shelf.FaultKind.TheVariants.{NotFound}
use Rattle.mesh_outside.specs.declared.target.several.NamedFile.{NamedFile}
use Rattle.mesh_outside.specs.Target.Several.{NamedBytes, names_and_bytes}
use Rattle.mesh_refusal.specs.Numbers.{document_number, number_of}
use Rattle.mesh_refusal.specs.declared.status.Status.{Status}
use Rattle.mesh_refusal.specs.declared.status.Status.TheVariants as status
use Rattle.ember_io.specs.Calls.{TakesUntilFault}
use Rattle.mesh_run.specs.Calls.{TargetCall, target_call}
use Rattle.mesh_run.specs.Serves.{IsOutcome, IsSent, MeshServes}
use Rattle.mesh_solid.specs.declared.mesh.fault.DocumentFault.{DocumentFault}
use Rattle.mesh_solid.specs.declared.mesh.fault.DocumentFault.TheVariants as document
use Rattle.mesh_words.specs.Arguments.{words_ask_json}
use Rattle.mesh_words.specs.Commands.{command_of}
use Rattle.mesh_words.specs.declared.command.Command.TheVariants.{Boole}
use Rattle.mesh_words.specs.declared.command.Request.{Request}
use Rattle.ember_call.specs.declared.outcome.Outcome.{Outcome}
use Rattle.ember_call.specs.Lent.{LentState, contents_of}
use Rattle.ember_call.specs.MeshCalls.{HasSolid, HaveNoFault, IsMeshDone, IsMeshOutcome, IsOutcomeOver, IsOutcomeWith, IsRefusal}
use Rattle.ember_call.specs.MeshCalls.{MeshEndsWith}
use Rattle.ember_call.specs.Calls.{shelf_over, sink_with}
use Rattle.ember_call.specs.MeshCalls.{target_with}
use Rattle.ember_call.specs.Taken.{GrownState, HaveOwnNames, TakenState, held_by}
use Rattle.ember_call.proofs.Ends.{new_shelf, new_sink, sink_after, lent_call, grown_call}
use Rattle.ember_call.proofs.MeshKnown.{told_files_are_there}

-- a target that failed as often as this
abbrev target_after : List NamedBytes → Option (List ℕ) → ℕ → TargetCall
target_after files begun faults = record {
  held = held_by [];
  held_after = held_by files;
  begun = begun;
  faults = 0;
  faults_after = faults;
}

-- a sink without a fault took all that was said
all_is_said : (said err : List ℕ) (flushed faults : ℕ) → faults ≡ 0 → TakesUntilFault (sink_after err flushed faults) said → err ≡ said
all_is_said said err flushed faults e h = h.whole (λ risen. omega (arith, e, risen))

-- what is promised of devices that had no fault, and of a shelf that has what it had
pub ends_over : (words : List (List ℕ)) (files : List (List ℕ × List ℕ)) (after : List ℕ → Option (List ℕ)) (faults fault_at : ℕ)
    (written : List NamedBytes) (begun : Option (List ℕ)) (out err : List ℕ) (out_flushed err_flushed target_faults out_faults err_faults : ℕ)
    (s : Status) → target_faults ≡ 0 → out_faults ≡ 0 → err_faults ≡ 0
    → MeshServes words (record { told = contents_of files; told_after = after; faults = 0; faults_after = faults; fault_at = fault_at; fault_kind = NotFound })
    (target_after written begun target_faults) (sink_after out out_flushed out_faults) (sink_after err err_flushed err_faults) s
    → MeshEndsWith words files s err out written
ends_over words files after faults fault_at written begun out err out_flushed err_flushed target_faults out_faults err_faults s t o e h =
    record {
      faults = faults;
      fault_at = fault_at;
      out_flushed = out_flushed;
      outcome =
          subst (λ said. IsOutcome (words_ask_json words) words (command_of words) (shelf_over files faults fault_at) (target_with written)
          (sink_with out out_flushed) s said) (sym (all_is_said h.text err err_flushed err_faults e h.said))
          (subst (λ n. IsOutcome (words_ask_json words) words (command_of words) (shelf_over files faults fault_at) (target_with written)
          (sink_after out out_flushed n) s h.text) o
          (subst (λ n. IsOutcome (words_ask_json words) words (command_of words) (shelf_over files faults fault_at) (target_after written None n)
          (sink_after out out_flushed out_faults) s h.text) t
          (subst (λ b. IsOutcome (words_ask_json words) words (command_of words) (shelf_over files faults fault_at) (target_after written b target_faults)
          (sink_after out out_flushed out_faults) s h.text) h.none_begun
          (subst (λ told. IsOutcome (words_ask_json words) words (command_of words)
          (record { told = contents_of files; told_after = told; faults = 0; faults_after = faults; fault_at = fault_at; fault_kind = NotFound })
          (target_after written begun target_faults) (sink_after out out_flushed out_faults) s h.text) h.contents.same h.outcome))));
      memory = h.memory;
    }

-- ---- the devices of a call
-- a target without files
abbrev pub new_target : TakenState
new_target = record { files = []; begun = None; faults = 0 }

-- what a call saw of it
abbrev pub taken_call : TakenState → TakenState → TargetCall
taken_call old new =
    target_call (λ (s : TakenState). held_by s.files) (λ (s : TakenState). s.begun) (λ (s : TakenState). s.faults) old new

-- a call over new devices, of which only the shelf had faults, ends so
call_ends : (words : List (List ℕ)) (files : List (List ℕ × List ℕ)) (s : Status) (shelf after : LentState)
    (target target_after : TakenState) (out out_after err err_after : GrownState) → shelf ≡ new_shelf files → target ≡ new_target →
    out ≡ new_sink → err ≡ new_sink →
    MeshServes words (lent_call shelf after) (taken_call target target_after) (grown_call out out_after) (grown_call err err_after) s →
    HaveNoFault target_after out_after err_after → MeshEndsWith words files s err_after.bytes out_after.bytes target_after.files
call_ends words files s shelf after target target_after out out_after err err_after e f g h serves none =
    let of_shelf = subst (λ (it : LentState). MeshServes words (lent_call it after) (taken_call target target_after)
    (grown_call out out_after) (grown_call err err_after) s) e serves in
    let of_target = subst (λ (it : TakenState). MeshServes words (lent_call (new_shelf files) after) (taken_call it target_after)
    (grown_call out out_after) (grown_call err err_after) s) f of_shelf in
    let of_out = subst (λ (it : GrownState). MeshServes words (lent_call (new_shelf files) after) (taken_call new_target target_after)
    (grown_call it out_after) (grown_call err err_after) s) g of_target in
    let of_err = subst (λ (it : GrownState). MeshServes words (lent_call (new_shelf files) after) (taken_call new_target target_after)
    (grown_call new_sink out_after) (grown_call it err_after) s) h of_out in
    ends_over words files (contents_of after.files) after.faults after.fault_at target_after.files target_after.begun out_after.bytes
    err_after.bytes out_after.flushed err_after.flushed target_after.faults out_after.faults err_after.faults s
    none.of_target none.of_out none.of_err of_err

-- its outcome, where what was said, taken and written goes to the caller as `IsOutcomeWith` says
outcome_ends : (words : List (List ℕ)) (files : List (List ℕ × List ℕ)) (outcome : Outcome) (s : Status)
    (out err : Vec ℕ Global) (written : Vec NamedFile Global) →
    MeshEndsWith words files s err.items out.items (names_and_bytes written.items) → HaveOwnNames (names_and_bytes written.items) →
    IsOutcomeWith s out err written outcome → IsMeshOutcome words files outcome
outcome_ends words files outcome s out err written ends own (inl (done, is)) =
    inl (record {
      number = is.number;
      file = is.file;
      place = is.place;
      ends = subst (λ (fs : Vec NamedFile Global). MeshEndsWith words files status.Done outcome.err.items outcome.out.items
          (names_and_bytes fs.items)) (sym is.files_are)
          (subst (λ (o : Vec ℕ Global). MeshEndsWith words files status.Done outcome.err.items o.items (names_and_bytes written.items))
          (sym is.out_is) (subst (λ (e : Vec ℕ Global). MeshEndsWith words files status.Done e.items out.items
          (names_and_bytes written.items)) (sym is.err_is) (subst (λ (d : Status). MeshEndsWith words files d err.items out.items
          (names_and_bytes written.items)) done ends)));
      own_names = subst (λ (fs : Vec NamedFile Global). HaveOwnNames (names_and_bytes fs.items)) (sym is.files_are) own;
    })
outcome_ends words files outcome s out err written ends own (inr (not_done, is)) =
    inr (inl (record {
      status = s;
      not_done = not_done;
      refusal = subst (λ (said : List ℕ). IsRefusal s said outcome) (sym is.err) is;
      begun_out = out.items;
      begun_files = names_and_bytes written.items;
      ends = subst (λ (said : List ℕ). MeshEndsWith words files s said out.items (names_and_bytes written.items)) (sym is.err) ends;
    }))

-- a call over new devices has an outcome
pub call_has_outcome : (words : List (List ℕ)) (files : List (List ℕ × List ℕ)) (outcome : Outcome) (s : Status)
    (shelf after : LentState) (target target_after : TakenState) (out out_after err err_after : GrownState) → shelf ≡ new_shelf files →
    target ≡ new_target → out ≡ new_sink → err ≡ new_sink →
    MeshServes words (lent_call shelf after) (taken_call target target_after) (grown_call out out_after) (grown_call err err_after) s →
    IsOutcomeOver s target_after out_after err_after outcome → IsMeshOutcome words files outcome
call_has_outcome words files outcome s shelf after target target_after out out_after err err_after e f g h serves (inl is) =
    let ends = call_ends words files s shelf after target target_after out out_after err err_after e f g h serves is.no_fault in
    let of_written = subst (λ (fs : List NamedBytes). MeshEndsWith words files s err_after.bytes out_after.bytes fs) (sym is.written_is) ends in
    let of_taken = subst (λ (bytes : List ℕ). MeshEndsWith words files s err_after.bytes bytes (names_and_bytes is.written.items))
    (sym is.taken_is) of_written in
    let of_said = subst (λ (bytes : List ℕ). MeshEndsWith words files s bytes is.taken.items (names_and_bytes is.written.items))
    (sym is.said_is) of_taken in
    outcome_ends words files outcome s is.taken is.said is.written of_said
    (subst (λ (fs : List NamedBytes). HaveOwnNames fs) (sym is.written_is) is.own_names) is.outcome_is
call_has_outcome words files outcome s shelf after target target_after out out_after err err_after e f g h serves (inr lacks) =
    inr (inr (inl lacks))

-- ---- the status with the number 0
document_is_something : (fault : DocumentFault) → document_number fault ≡ 0 → ⊥
document_is_something document.NotADocument e = cc
document_is_something (document.OffPlane a) e = cc
document_is_something (document.OffEdge a) e = cc
document_is_something (document.NotRound a) e = cc
document_is_something (document.NoTables a) e = cc
document_is_something document.NotClosed e = cc
document_is_something document.Overlap e = cc
document_is_something (document.NotCut a) e = cc
document_is_something document.OutOfMemory e = cc

is_done : (s : Status) → number_of s ≡ 0 → s ≡ status.Done
is_done status.Done e = refl
is_done (status.Words why) e = absurd (cc)
is_done status.StepOfNoGrid e = absurd (cc)
is_done (status.ReadFault i kind) e = absurd (cc)
is_done status.WriteFault e = absurd (cc)
is_done (status.NotWritten name) e = absurd (cc)
is_done (status.FileRefused i reason) e = absurd (cc)
is_done status.NoTriangles e = absurd (cc)
is_done status.NotAScene e = absurd (cc)
is_done (status.NotClosed hole format) e = absurd (cc)
is_done (status.ExprRefused fault) e = absurd (cc)
is_done status.Unbounded e = absurd (cc)
is_done (status.LongFile i) e = absurd (cc)
is_done (status.TooManyTriangles count) e = absurd (cc)
is_done status.TooManyWritten e = absurd (cc)
is_done (status.StepTooSmall extent) e = absurd (cc)
is_done status.TooFar e = absurd (cc)
is_done (status.DocumentRefused fault) e = absurd (document_is_something fault e)
is_done status.OutOfMemory e = absurd (cc)
is_done (status.Uncertified fault) e = absurd (cc)

-- ---- a Boolean that is done
-- standard output has what was sent to it, and nothing else; and what is said is the report
sent_is_taken : (json : Bool) (sent : Option (List ℕ)) (report said bytes : List ℕ) (flushed : ℕ) →
    IsSent json sent report (sink_with bytes flushed) status.Done said → (bytes ≡ unwrap_or sent []) × (said ≡ report)
sent_is_taken json None report said bytes flushed h = (ap (λ o. unwrap_or o []) h.2, h.1)
sent_is_taken json (Some mesh) report said bytes flushed h = (h.0.taken, h.1)

done_has_solid : (words : List (List ℕ)) (files : List (List ℕ × List ℕ)) (outcome : Outcome) (request : Request) → IsMeshDone words files outcome
    → command_of words ≡ Ok (Boole request) → HasSolid (words_ask_json words) request files outcome
done_has_solid words files outcome request is e =
    let ends = is.ends in
    let made = subst (λ c. IsOutcome (words_ask_json words) words c (shelf_over files ends.faults ends.fault_at)
    (target_with (names_and_bytes outcome.files.items)) (sink_with outcome.out.items ends.out_flushed)
    status.Done outcome.err.items) e ends.outcome in
    let puts = made.puts in
    let taken = sent_is_taken (words_ask_json words) made.sent made.report outcome.err.items outcome.out.items ends.out_flushed made.is_sent in
    record {
      there = told_files_are_there files request.files puts.is_output.of_files.files puts.is_output.of_files.are_files;
      output = puts.output;
      is_output = puts.is_output;
      written = puts.files;
      are_files = puts.are_files;
      all = puts.written;
      own_names = is.own_names;
      out = taken.0 ∙ ap (λ o. unwrap_or o []) puts.sent_is;
      report = taken.1 ∙ puts.report_is;
    }

-- ---- outcomes
-- with status 0 a Boolean has its solid
pub outcome_has_solid : (words : List (List ℕ)) (files : List (List ℕ × List ℕ)) (outcome : Outcome) → IsMeshOutcome words files outcome →
    outcome.status ≡ 0 → (request : Request) → command_of words ≡ Ok (Boole request) →
    HasSolid (words_ask_json words) request files outcome
outcome_has_solid words files outcome (inl done) is_zero request e = done_has_solid words files outcome request done e
outcome_has_solid words files outcome (inr (inl refused)) is_zero request e =
    absurd (refused.not_done (is_done refused.status (sym refused.refusal.number ∙ is_zero)))
outcome_has_solid words files outcome (inr (inr (inl lacks))) is_zero request e = absurd (omega (arith, lacks.status, is_zero))
outcome_has_solid words files outcome (inr (inr (inr lacks))) is_zero request e = absurd (omega (arith, lacks.0.status, is_zero))

-- with another status nothing is written
pub mesh_outcome_is_empty : (words : List (List ℕ)) (files : List (List ℕ × List ℕ)) (outcome : Outcome) → IsMeshOutcome words files outcome →
    outcome.status ≢ 0 → (outcome.out.items ≡ []) × (outcome.files.items ≡ [])
mesh_outcome_is_empty words files outcome (inl done) n = absurd (n done.number)
mesh_outcome_is_empty words files outcome (inr (inl refused)) n = (refused.refusal.out, refused.refusal.files)
mesh_outcome_is_empty words files outcome (inr (inr (inl lacks))) n = (lacks.out, lacks.files)
mesh_outcome_is_empty words files outcome (inr (inr (inr lacks))) n = (lacks.0.out, lacks.0.files)
