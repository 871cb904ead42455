-- Where no device failed, a call gives what the verdict says, or memory was short.
use Rattle.std.proofs.Common.{◌≡◌, ◌≢◌, ◌≤◌, ℕ, ◌-◌, ℤ, List, [], length, map, true, false, ◌⊎◌, inl, inr, Some, None, refl, sym, ap, subst, ◌∙◌}
use Rattle.std.specs.declared.option.Option.{Option}
use Rattle.std.specs.Io.KnownBytes.{Appends}
use Rattle.ember_io.specs.Sinks.{AppendsPrefix, IsFlushed}
use Rattle.ember_words.specs.declared.command.Command.{Command}
use Rattle.ember_verdict.specs.declared.status.Status.{Status}
use Rattle.ember_verdict.specs.declared.status.Status.TheVariants.{Done, Words, ReadFault, WriteFault, ObjRefused}
use Rattle.ember_verdict.specs.declared.status.Status.TheVariants.{MeshRefused, ExprRefused, Unbounded, Limit, NotClear}
use Rattle.ember_verdict.specs.declared.status.Status.TheVariants.{FaceRefused, OutOfMemory}
use Rattle.ember_run.specs.declared.reply.Reply.{Reply}
use Rattle.ember_verdict.specs.Outputs.{Output}
use Rattle.ember_verdict.specs.Statuses.{HasOutput, IsBegun, IsBegunIfTold, IsRefusal, IsRefusalIfTold, IsText}
use Rattle.ember_verdict.specs.Statuses.{IsTextIfTold, IsWritten, IsWrittenIfTold, hides_memory, is_before_files}
use Rattle.ember_verdict.specs.Statuses.{is_refusal, refused_file}
use Rattle.ember_io.specs.Calls.{ShelfCall, SinkCall, HasShelfFailed, HasSinkFailed}
use Rattle.ember_io.specs.Shelves.{IsFileIn}
use Rattle.ember_verdict.specs.Held.{MayHold}
use Rattle.ember_verdict.specs.Lines.{text_on_err}
use Rattle.ember_verdict.specs.Messages.{AppendsUntilFault}
use Rattle.ember_verdict.specs.Reported.{IsErrText, IsReported, IsReportOfVerdictIfAsked, asks_report}
use Rattle.ember_run.specs.Serves.{IsReply, IsReplyTo, Serves}
use Rattle.ember_verdict.specs.NoReplies.{IsNoReply, with_others}
use Rattle.ember_verdict.specs.Slices.{IsFaceFault, IsSliceRefusal, IsSliceable}
use Rattle.ember_verdict.specs.Verdict.{Contents, Verdict, Unknown, Refused, Writes, Slices, first_told, names_of, told_verdict, verdict_before, verdict_of}
use Rattle.ember_verdict.specs.declared.status.FaceFault.{FaceFault}
use Rattle.ember_verdict.proofs.RefusedBeforeFiles.{refused_with_any, unknown_refused}
use Rattle.ember_verdict.proofs.SliceFaults.{one_fault, slice_or_fault, sliceable_or_fault}
use Rattle.ember_verdict.proofs.SolidVerdicts.{err_text}
use Rattle.ember_verdict.proofs.ToldVerdicts.{verdict_told}
use Rattle.ember_verdict.proofs.Verdicts.{IsSameIfTold, refusal_if_told, refusal_then, text_told}
use Rattle.ember_verdict.proofs.NoReplies.{before_is_refusal, file_is_refusal, length_told}

-- what a status must be for, by the verdict v
pub record Owes (v : Verdict) (R W : Type 0) (old new : Option (List ℕ)) (status : Status) : Type 0 where
  pub done : status ≡ Done → IsWrittenIfTold v old new
  pub refused : is_refusal status ≡ true → IsRefusalIfTold status v
  pub read_fault : (i : ℕ) → status ≡ ReadFault i → R
  pub write_fault : status ≡ WriteFault → W × IsBegunIfTold v old new

output_or_memory : (output : Output) (R W : Type 0) (old new : Option (List ℕ)) (status : Status) →
    Owes (Writes output) R W old new status → ¬ R → ¬ W → (status ≡ Done) ⊎ (status ≡ OutOfMemory)
output_or_memory output R W old new Done o r w = inl refl
output_or_memory output R W old new Words o r w = absurd (o.refused refl)
output_or_memory output R W old new (ReadFault i) o r w = absurd (r (o.read_fault i refl))
output_or_memory output R W old new WriteFault o r w = absurd (w (o.write_fault refl).0)
output_or_memory output R W old new (ObjRefused i fault) o r w = absurd (o.refused refl)
output_or_memory output R W old new (MeshRefused i fault) o r w = absurd (o.refused refl)
output_or_memory output R W old new (ExprRefused fault) o r w = absurd (o.refused refl)
output_or_memory output R W old new Unbounded o r w = absurd (o.refused refl)
output_or_memory output R W old new (Limit kind count) o r w = absurd (o.refused refl)
output_or_memory output R W old new NotClear o r w = absurd (o.refused refl)
output_or_memory output R W old new (FaceRefused fault) o r w = absurd (o.refused refl)
output_or_memory output R W old new OutOfMemory o r w = inr refl

refusal_or_memory : (refusal : Status) (R W : Type 0) (old new : Option (List ℕ)) (status : Status) →
    Owes (Refused refusal) R W old new status → ¬ R → (status ≡ refusal) ⊎ (status ≡ OutOfMemory)
refusal_or_memory refusal R W old new Done o r = absurd (o.done refl).1
refusal_or_memory refusal R W old new Words o r = inl (sym (o.refused refl))
refusal_or_memory refusal R W old new (ReadFault i) o r = absurd (r (o.read_fault i refl))
refusal_or_memory refusal R W old new WriteFault o r = absurd (o.write_fault refl).1.1
refusal_or_memory refusal R W old new (ObjRefused i fault) o r = inl (sym (o.refused refl))
refusal_or_memory refusal R W old new (MeshRefused i fault) o r = inl (sym (o.refused refl))
refusal_or_memory refusal R W old new (ExprRefused fault) o r = inl (sym (o.refused refl))
refusal_or_memory refusal R W old new Unbounded o r = inl (sym (o.refused refl))
refusal_or_memory refusal R W old new (Limit kind count) o r = inl (sym (o.refused refl))
refusal_or_memory refusal R W old new NotClear o r = inl (sym (o.refused refl))
refusal_or_memory refusal R W old new (FaceRefused fault) o r = inl (sym (o.refused refl))
refusal_or_memory refusal R W old new OutOfMemory o r = inr refl

-- ---- a slice
slice_or_memory : (at : ℤ) (bytes : List ℕ) (R W : Type 0) (old new : Option (List ℕ)) (status : Status) →
    IsSliceable at bytes → Owes (Slices at bytes) R W old new status → ¬ R → ¬ W →
    (status ≡ Done) ⊎ (status ≡ OutOfMemory)
slice_or_memory at bytes R W old new Done s o r w = inl refl
slice_or_memory at bytes R W old new Words s o r w = absurd (o.refused refl)
slice_or_memory at bytes R W old new (ReadFault i) s o r w = absurd (r (o.read_fault i refl))
slice_or_memory at bytes R W old new WriteFault s o r w = absurd (w (o.write_fault refl).0)
slice_or_memory at bytes R W old new (ObjRefused i fault) s o r w = absurd (o.refused refl)
slice_or_memory at bytes R W old new (MeshRefused i fault) s o r w = absurd (o.refused refl)
slice_or_memory at bytes R W old new (ExprRefused fault) s o r w = absurd (o.refused refl)
slice_or_memory at bytes R W old new Unbounded s o r w = absurd (o.refused refl)
slice_or_memory at bytes R W old new (Limit kind count) s o r w = absurd (o.refused refl)
slice_or_memory at bytes R W old new NotClear s o r w = absurd (o.refused refl)
slice_or_memory at bytes R W old new (FaceRefused fault) s o r w = absurd (sliceable_or_fault at bytes fault s (o.refused refl))
slice_or_memory at bytes R W old new OutOfMemory s o r w = inr refl

fault_or_memory : (at : ℤ) (bytes : List ℕ) (other : FaceFault) (R W : Type 0) (old new : Option (List ℕ))
    (status : Status) → IsFaceFault at bytes other → Owes (Slices at bytes) R W old new status → ¬ R →
    (status ≡ FaceRefused other) ⊎ (status ≡ OutOfMemory)
fault_or_memory at bytes other R W old new Done f o r = let t = o.done refl in absurd (slice_or_fault at bytes t.0 other t.1 f)
fault_or_memory at bytes other R W old new Words f o r = absurd (o.refused refl)
fault_or_memory at bytes other R W old new (ReadFault i) f o r = absurd (r (o.read_fault i refl))
fault_or_memory at bytes other R W old new WriteFault f o r = let t = (o.write_fault refl).1 in absurd (slice_or_fault at bytes t.0 other t.1 f)
fault_or_memory at bytes other R W old new (ObjRefused i fault) f o r = absurd (o.refused refl)
fault_or_memory at bytes other R W old new (MeshRefused i fault) f o r = absurd (o.refused refl)
fault_or_memory at bytes other R W old new (ExprRefused fault) f o r = absurd (o.refused refl)
fault_or_memory at bytes other R W old new Unbounded f o r = absurd (o.refused refl)
fault_or_memory at bytes other R W old new (Limit kind count) f o r = absurd (o.refused refl)
fault_or_memory at bytes other R W old new NotClear f o r = absurd (o.refused refl)
fault_or_memory at bytes other R W old new (FaceRefused fault) f o r = inl (ap FaceRefused (one_fault at bytes fault other (o.refused refl) f))
fault_or_memory at bytes other R W old new OutOfMemory f o r = inr refl

-- ---- any verdict
output_given : (v : Verdict) (R W : Type 0) (old new : Option (List ℕ)) (status : Status) → HasOutput v →
    Owes v R W old new status → ¬ R → ¬ W → (status ≡ Done) ⊎ (status ≡ OutOfMemory)
output_given Unknown R W old new status a o r w = absurd a
output_given (Refused refusal) R W old new status a o r w = absurd a
output_given (Writes output) R W old new status a o r w = output_or_memory output R W old new status o r w
output_given (Slices at bytes) R W old new status a o r w = slice_or_memory at bytes R W old new status a o r w

refused_slice : (at : ℤ) (bytes : List ℕ) (refusal : Status) → IsSliceRefusal at bytes refusal →
    (fault : FaceFault) × (refusal ≡ FaceRefused fault) × IsFaceFault at bytes fault
refused_slice at bytes Done a = absurd a
refused_slice at bytes Words a = absurd a
refused_slice at bytes (ReadFault i) a = absurd a
refused_slice at bytes WriteFault a = absurd a
refused_slice at bytes (ObjRefused i fault) a = absurd a
refused_slice at bytes (MeshRefused i fault) a = absurd a
refused_slice at bytes (ExprRefused fault) a = absurd a
refused_slice at bytes Unbounded a = absurd a
refused_slice at bytes (Limit kind count) a = absurd a
refused_slice at bytes NotClear a = absurd a
refused_slice at bytes (FaceRefused fault) a = (fault, refl, a)
refused_slice at bytes OutOfMemory a = absurd a

refusal_given : (v : Verdict) (refusal : Status) (R W : Type 0) (old new : Option (List ℕ)) (status : Status) →
    IsRefusal refusal v → Owes v R W old new status → ¬ R → (status ≡ refusal) ⊎ (status ≡ OutOfMemory)
refusal_given Unknown refusal R W old new status a o r = absurd a
refusal_given (Refused other) refusal R W old new status a o r =
    subst (λ (s : Status). (status ≡ s) ⊎ (status ≡ OutOfMemory)) a (refusal_or_memory other R W old new status o r)
refusal_given (Writes output) refusal R W old new status a o r = absurd a
refusal_given (Slices at bytes) refusal R W old new status a o r =
    let f = refused_slice at bytes refusal a in
    subst (λ (s : Status). (status ≡ s) ⊎ (status ≡ OutOfMemory)) (sym f.1) (fault_or_memory at bytes f.0 R W old new status f.2 o r)

-- what the statuses say, by the verdict
pub record Rows (command : Option Command) (shelf : ShelfCall) (out : SinkCall) (status : Status) : Type 0 where
  pub contents : shelf.told_after ≡ shelf.told
  pub later : shelf.faults ≤ shelf.faults_after
  pub out_later : out.faults ≤ out.faults_after
  pub done : status ≡ Done → IsWrittenIfTold (told_verdict command shelf.told) out.taken out.taken_after × IsFlushed out.taken_after out.flushed_after
  pub done_read : status ≡ Done → MayHold shelf.told (names_of command) (λ contents. IsWritten (verdict_of command contents) out.taken out.taken_after)
  pub begun_read : status ≡ WriteFault → MayHold shelf.told (names_of command) (λ contents. IsBegun (verdict_of command contents) out.taken out.taken_after)
  pub refused : is_refusal status ≡ true → IsRefusalIfTold status (told_verdict command shelf.told)
  pub refused_read : is_refusal status ≡ true → MayHold shelf.told (names_of command) (λ contents. IsRefusal status (verdict_of command contents))
  pub read_fault : (i : ℕ) → status ≡ ReadFault i →
      HasShelfFailed shelf × (shelf.fault_at ≡ i) × (verdict_before i command shelf.told ≡ Unknown) × IsFileIn
      (names_of command) i
  pub read_fault_read : (i : ℕ) → status ≡ ReadFault i → MayHold shelf.told (names_of command)
      (λ contents. verdict_of command (first_told (i - 1) contents) ≡ Unknown)
  pub words : status ≡ Words → command ≡ None
  pub before_files : is_before_files status ≡ true → verdict_before 1 command shelf.told ≡ Refused status
  pub in_file : (i : ℕ) → refused_file status ≡ Some i → (others : Contents) →
      length others ≡ length (names_of command) → IsRefusalIfTold status
      (verdict_of command (with_others i (map shelf.told (names_of command)) others))
  pub one_of : (i : ℕ) → refused_file status ≡ Some i → IsFileIn (names_of command) i
  pub memory : hides_memory status ≡ false
  pub write_fault : status ≡ WriteFault → HasSinkFailed out × IsBegunIfTold (told_verdict command shelf.told) out.taken out.taken_after
  pub untouched : status ≢ Done → status ≢ WriteFault → out.taken_after ≡ out.taken

-- what is refused with no file known is refused, or memory was short
before_given : (command : Option Command) (shelf : ShelfCall) (out : SinkCall) (status : Status) →
    Rows command shelf out status → (refusal : Status) → verdict_before 1 command shelf.told ≡ Refused refusal →
    (status ≡ refusal) ⊎ (status ≡ OutOfMemory)
before_given command shelf out status rows refusal e =
    let contents = map shelf.told (names_of command) in
    let is : told_verdict command shelf.told ≡ Refused refusal = refused_with_any command contents contents refusal refl e in
    refusal_or_memory refusal ⊥ (HasSinkFailed out) out.taken out.taken_after status
    (record {
      done = λ p. subst (λ (v : Verdict). IsWrittenIfTold v out.taken out.taken_after) is (rows.done p).0;
      refused = λ p. subst (λ (v : Verdict). IsRefusalIfTold status v) is (rows.refused p);
      read_fault = λ i p. unknown_refused (sym (rows.read_fault i p).2
          ∙ refused_with_any command contents (first_told (i - 1) contents) refusal (length_told (i - 1) contents) e);
      write_fault = λ p. let w = rows.write_fault p in (w.0, subst (λ (v : Verdict). IsBegunIfTold v out.taken out.taken_after) is w.1);
    })
    (λ f. f)

served : (command : Option Command) (shelf : ShelfCall) (out err : SinkCall) (status : Status) (text : List ℕ) →
    Rows command shelf out status → IsErrText command shelf.told status text →
    AppendsUntilFault err.faults err.faults_after err.taken err.taken_after text →
    (status ≡ Done → MayHold shelf.told (names_of command)
    (λ contents. IsWritten (verdict_of command contents) out.taken out.taken_after ×
    IsReported (asks_report command) (verdict_of command contents) err)) → Serves command shelf out err status
served command shelf out err status text rows is said reported =
    let v = told_verdict command shelf.told in
    let owes : Owes v (HasShelfFailed shelf) (HasSinkFailed out) out.taken out.taken_after status =
    record {
      done = λ p. (rows.done p).0;
      refused = rows.refused;
      read_fault =
          λ i p. (rows.read_fault i p).0;
      write_fault = rows.write_fault;
    } in
    record {
      contents = rows.contents;
      later = rows.later;
      out_later = rows.out_later;
      done = rows.done;
      done_read = rows.done_read;
      reported_read = reported;
      refused = rows.refused;
      refused_read = rows.refused_read;
      words = rows.words;
      no_command = λ e. before_given command shelf out status rows Words
          (subst (λ (command : Option Command). verdict_before 1 command shelf.told ≡ Refused Words) (sym e) refl);
      before_files = rows.before_files;
      before_files_given = before_given command shelf out status rows;
      in_file = rows.in_file;
      one_of = rows.one_of;
      memory = rows.memory;
      read_fault = rows.read_fault;
      read_fault_read = rows.read_fault_read;
      write_fault = rows.write_fault;
      begun_read = rows.begun_read;
      untouched = rows.untouched;
      output_given = λ asks r w. output_given v (HasShelfFailed shelf) (HasSinkFailed out) out.taken out.taken_after status asks owes r w;
      refusal_given = λ refusal asks r. refusal_given v refusal (HasShelfFailed shelf) (HasSinkFailed out) out.taken out.taken_after status asks owes r;
      err_text = (text, is, said);
    }

-- ---- a call whose command is replied_call_serves
not_refusal : (status : Status) → (status ≡ Done) ⊎ (status ≡ WriteFault) → is_refusal status ≡ true → ⊥
not_refusal status (inl e) r = absurd (cc)
not_refusal status (inr e) r = absurd (cc)

not_read_fault : (status : Status) (i : ℕ) → (status ≡ Done) ⊎ (status ≡ WriteFault) → status ≡ ReadFault i → ⊥
not_read_fault status i (inl e) r = absurd (cc)
not_read_fault status i (inr e) r = absurd (cc)

ended_memory : (status : Status) → (status ≡ Done) ⊎ (status ≡ WriteFault) → hides_memory status ≡ false
ended_memory status (inl e) = ap hides_memory e
ended_memory status (inr e) = ap hides_memory e

touched : (status : Status) → (status ≡ Done) ⊎ (status ≡ WriteFault) → status ≢ Done → status ≢ WriteFault → ⊥
touched status (inl e) d w = d e
touched status (inr e) d w = w e

-- a reply that was written, or begun, is served
pub replied_call_serves : (command : Command) (shelf : ShelfCall) (out err : SinkCall) (status : Status) (reply : Reply)
    (text line : List ℕ) → shelf.told_after ≡ shelf.told → shelf.faults ≤ shelf.faults_after →
    out.faults ≤ out.faults_after → IsReplyTo command shelf.told reply → text ≡ reply.text.items → line ≡ reply.report.items
    → (status ≡ Done → Appends out.taken out.taken_after text × IsFlushed out.taken_after out.flushed_after) →
    (status ≡ WriteFault → HasSinkFailed out × AppendsPrefix out.taken out.taken_after text) →
    (status ≡ Done) ⊎ (status ≡ WriteFault)
    → AppendsUntilFault err.faults err.faults_after err.taken err.taken_after
    (text_on_err (names_of (Some command)) status line) → Serves (Some command) shelf out err status
replied_call_serves command shelf out err status reply text line same later out_later held t l done fault either said =
    let verdict = told_verdict (Some command) shelf.told in
    let known = verdict_of (Some command) (map Some held.0) in
    let is : IsReply (asks_report (Some command)) known reply = held.2 in
    let same_told : IsSameIfTold verdict known = verdict_told (Some command) shelf.told held.0 held.1 in
    let known_text : IsText known text = subst (λ (bytes : List ℕ). IsText known bytes) (sym t) is.text in
    let is_text : IsTextIfTold verdict text = text_told text verdict known same_told known_text in
    let asked = asks_report (Some command) in
    let known_line : IsReportOfVerdictIfAsked asked known line =
    subst (λ (bytes : List ℕ). IsReportOfVerdictIfAsked asked known bytes) (sym l) is.report in
    let line_said : status ≡ Done → AppendsUntilFault err.faults err.faults_after err.taken err.taken_after line =
    λ d. subst (λ (s : Status). AppendsUntilFault err.faults err.faults_after err.taken err.taken_after
    (text_on_err (names_of (Some command)) s line)) d said in
    served (Some command) shelf out err status (text_on_err (names_of (Some command)) status line)
    (record {
      contents = same;
      later = later;
      out_later = out_later;
      done = λ e. let d = done e in ((text, is_text, d.0), d.1);
      done_read = λ e. (held.0, held.1, (text, known_text, (done e).0));
      begun_read = λ e. (held.0, held.1, (text, known_text, (fault e).1));
      refused = λ r. absurd (not_refusal status either r);
      refused_read = λ r. absurd (not_refusal status either r);
      words = λ e. absurd (not_refusal status either (ap is_refusal e));
      before_files = λ b. absurd (not_refusal status either (before_is_refusal status b));
      in_file = λ i e. absurd (not_refusal status either (file_is_refusal status i e));
      one_of = λ i e. absurd (not_refusal status either (file_is_refusal status i e));
      memory = ended_memory status either;
      read_fault = λ i e. absurd (not_read_fault status i either e);
      read_fault_read = λ i e. absurd (not_read_fault status i either e);
      write_fault = λ e. let f = fault e in (f.0, (text, is_text, f.1));
      untouched = λ d w. absurd (touched status either d w);
    })
    (err_text (Some command) shelf.told status line
    (λ d. (held.0, held.1, known_line))) said
    (λ d. (held.0, held.1, ((text, known_text, (done d).0), (line, known_line, line_said d))))

-- ---- a call that has no answer
pub stopped_call_serves : (command : Command) (shelf : ShelfCall) (out err : SinkCall) (status : Status) →
    shelf.told_after ≡ shelf.told → shelf.faults ≤ shelf.faults_after → out.faults ≤ out.faults_after →
    out.taken_after ≡ out.taken → IsNoReply (verdict_of (Some command)) (names_of (Some command)) shelf status
    → AppendsUntilFault err.faults err.faults_after err.taken err.taken_after
    (text_on_err (names_of (Some command)) status []) → Serves (Some command) shelf out err status
stopped_call_serves command shelf out err status same later out_later untouched no_reply said =
    served (Some command) shelf out err status (text_on_err (names_of (Some command)) status [])
    (record {
      contents = same;
      later = later;
      out_later = out_later;
      done = λ e. absurd (no_reply.never.0 e);
      done_read = λ e. absurd (no_reply.never.0 e);
      begun_read = λ e. absurd (no_reply.never.2 e);
      refused = λ r.
          let h = no_reply.refused r in
          refusal_then status (told_verdict (Some command) shelf.told) (verdict_of (Some command) (map Some h.0))
          (verdict_told (Some command) shelf.told h.0 h.1)
          (refusal_if_told status (verdict_of (Some command) (map Some h.0)) h.2);
      refused_read = no_reply.refused;
      words = λ e. absurd (no_reply.never.1 e);
      before_files = no_reply.before_files;
      in_file = no_reply.in_file;
      one_of = no_reply.one_of;
      memory = no_reply.memory;
      read_fault = no_reply.read_fault;
      read_fault_read = no_reply.nothing_before;
      write_fault = λ e. absurd (no_reply.never.2 e);
      untouched = λ d w. untouched;
    })
    (err_text (Some command) shelf.told status [] (λ e. absurd (no_reply.never.0 e))) said
    (λ e. absurd (no_reply.never.0 e))
