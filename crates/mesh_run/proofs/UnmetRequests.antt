-- What comes of a request whose files aren't all written
use Rattle.std.proofs.Common.{◌≡◌, inl, inr, ℕ, List, refl, sym, ap, subst, ◌∙◌}
use Rattle.std.specs.declared.alloc.Global.{Global}
use Rattle.std.specs.Prelude.{Result, Ok, Err, IfErr, IfOk, IsErrAnd, OnErr, String, Vec, false, string_bytes}
use Rattle.mesh_outside.specs.Target.Several.{NamedBytes, PutsBefore}
use Rattle.mesh_outside.specs.declared.target.target.WriteEnd.{WriteEnd}
use Rattle.ember_io.specs.Calls.{SinkCall, TakesUntilFault}
use Rattle.mesh_run.specs.Calls.{TargetCall, HoldsAll}
use Rattle.mesh_refusal.specs.Lines.{IsShown}
use Rattle.mesh_run.specs.Memory.{hides_memory}
use Rattle.mesh_run.specs.Unmet.{EndsAs, EndsOn, IsUnmet, IsUnwrittenStatus, IsWriteStop}
use Rattle.mesh_refusal.specs.declared.status.Status.{Status}
use Rattle.mesh_refusal.specs.declared.status.Status.TheVariants.{Done, Words, StepOfNoGrid, ReadFault, WriteFault}
use Rattle.mesh_refusal.specs.declared.status.Status.TheVariants.{NotWritten, FileRefused, NoTriangles, NotAScene}
use Rattle.mesh_refusal.specs.declared.status.Status.TheVariants.{NotClosed, ExprRefused, Unbounded, LongFile}
use Rattle.mesh_refusal.specs.declared.status.Status.TheVariants.{TooManyTriangles, TooManyWritten, StepTooSmall}
use Rattle.mesh_refusal.specs.declared.status.Status.TheVariants.{TooFar, DocumentRefused, OutOfMemory, Uncertified}

-- what holds of want of memory holds of an error that it made
pub memory_given : {T : Type 0} (P : Status → Type 0) (result : Result T Status) →
    IsErrAnd result (λ status. status ≡ OutOfMemory) → P OutOfMemory → IfErr result P
memory_given P (Ok x) e h = tt
memory_given P (Err status) e h = subst P (sym e) h

-- the status of a file that isn't written is why not all of them are
pub unwritten_status_stops : (files : List NamedBytes) (target : TargetCall) (name : List ℕ) (why : WriteEnd)
    (status : Status) → PutsBefore files name why target.held target.held_after target.faults target.faults_after →
    IsUnwrittenStatus name why status → IsWriteStop files target status
unwritten_status_stops files target name why Done before h = absurd h
unwritten_status_stops files target name why (Words refusal) before h = absurd h
unwritten_status_stops files target name why StepOfNoGrid before h = absurd h
unwritten_status_stops files target name why (ReadFault i kind) before h = absurd h
unwritten_status_stops files target name why WriteFault before h = absurd h
unwritten_status_stops files target name why (NotWritten file) before h = (
  why,
  h.1,
  subst (λ (said : List ℕ). PutsBefore files said why target.held target.held_after target.faults
      target.faults_after) (sym h.0) before,
)
unwritten_status_stops files target name why (FileRefused i reason) before h = absurd h
unwritten_status_stops files target name why NoTriangles before h = absurd h
unwritten_status_stops files target name why NotAScene before h = absurd h
unwritten_status_stops files target name why (NotClosed o format) before h = absurd h
unwritten_status_stops files target name why (ExprRefused fault) before h = absurd h
unwritten_status_stops files target name why Unbounded before h = absurd h
unwritten_status_stops files target name why (LongFile i) before h = absurd h
unwritten_status_stops files target name why (TooManyTriangles count) before h = absurd h
unwritten_status_stops files target name why TooManyWritten before h = absurd h
unwritten_status_stops files target name why (StepTooSmall extent) before h = absurd h
unwritten_status_stops files target name why TooFar before h = absurd h
unwritten_status_stops files target name why (DocumentRefused fault) before h = absurd h
unwritten_status_stops files target name why OutOfMemory before h = (name, why, before)
unwritten_status_stops files target name why (Uncertified fault) before h = absurd h

module _ (IsCause : Status → Type 0) (AreFiles : List NamedBytes → Type 0) (target : TargetCall) where
  -- ---- requests that aren't met
  -- nothing was written, since there are no files
  pub cause_is_unmet : (status : Status) → ((name : String Global) → IsCause (NotWritten name) → ⊥) → HoldsAll target →
      IsCause status → hides_memory status ≡ false → IsUnmet IsCause AreFiles target status
  cause_is_unmet Done never same h memory = (h, same, memory)
  cause_is_unmet (Words refusal) never same h memory = (h, same, memory)
  cause_is_unmet StepOfNoGrid never same h memory = (h, same, memory)
  cause_is_unmet (ReadFault i kind) never same h memory = (h, same, memory)
  cause_is_unmet WriteFault never same h memory = (h, same, memory)
  cause_is_unmet (NotWritten file) never same h memory = absurd (never file h)
  cause_is_unmet (FileRefused i reason) never same h memory = (h, same, memory)
  cause_is_unmet NoTriangles never same h memory = (h, same, memory)
  cause_is_unmet NotAScene never same h memory = (h, same, memory)
  cause_is_unmet (NotClosed o format) never same h memory = (h, same, memory)
  cause_is_unmet (ExprRefused fault) never same h memory = (h, same, memory)
  cause_is_unmet Unbounded never same h memory = (h, same, memory)
  cause_is_unmet (LongFile i) never same h memory = (h, same, memory)
  cause_is_unmet (TooManyTriangles count) never same h memory = (h, same, memory)
  cause_is_unmet TooManyWritten never same h memory = (h, same, memory)
  cause_is_unmet (StepTooSmall extent) never same h memory = (h, same, memory)
  cause_is_unmet TooFar never same h memory = (h, same, memory)
  cause_is_unmet (DocumentRefused fault) never same h memory = (h, same, memory)
  cause_is_unmet OutOfMemory never same h memory = inl same
  cause_is_unmet (Uncertified fault) never same h memory = (h, same, memory)

  -- one of the files isn't written
  pub stop_is_unmet : (files : List NamedBytes) → AreFiles files → (status : Status) → IsWriteStop files target status → IsUnmet IsCause AreFiles target status
  stop_is_unmet files are Done h = absurd h
  stop_is_unmet files are (Words refusal) h = absurd h
  stop_is_unmet files are StepOfNoGrid h = absurd h
  stop_is_unmet files are (ReadFault i kind) h = absurd h
  stop_is_unmet files are WriteFault h = absurd h
  stop_is_unmet files are (NotWritten file) h = (h.0, h.1, record { files = files; are_files = are; before = h.2 })
  stop_is_unmet files are (FileRefused i reason) h = absurd h
  stop_is_unmet files are NoTriangles h = absurd h
  stop_is_unmet files are NotAScene h = absurd h
  stop_is_unmet files are (NotClosed o format) h = absurd h
  stop_is_unmet files are (ExprRefused fault) h = absurd h
  stop_is_unmet files are Unbounded h = absurd h
  stop_is_unmet files are (LongFile i) h = absurd h
  stop_is_unmet files are (TooManyTriangles count) h = absurd h
  stop_is_unmet files are TooManyWritten h = absurd h
  stop_is_unmet files are (StepTooSmall extent) h = absurd h
  stop_is_unmet files are TooFar h = absurd h
  stop_is_unmet files are (DocumentRefused fault) h = absurd h
  stop_is_unmet files are OutOfMemory h = inr (h.0, h.1, record { files = files; are_files = are; before = h.2 })
  stop_is_unmet files are (Uncertified fault) h = absurd h

  -- without memory for a line, the status is want of memory
  unmet_lacks_memory : (status : Status) → IsUnmet IsCause AreFiles target status → IsUnmet IsCause AreFiles target OutOfMemory
  unmet_lacks_memory Done h = inl h.1
  unmet_lacks_memory (Words refusal) h = inl h.1
  unmet_lacks_memory StepOfNoGrid h = inl h.1
  unmet_lacks_memory (ReadFault i kind) h = inl h.1
  unmet_lacks_memory WriteFault h = inl h.1
  unmet_lacks_memory (NotWritten file) h = inr (string_bytes file, h.0, h.2)
  unmet_lacks_memory (FileRefused i reason) h = inl h.1
  unmet_lacks_memory NoTriangles h = inl h.1
  unmet_lacks_memory NotAScene h = inl h.1
  unmet_lacks_memory (NotClosed o format) h = inl h.1
  unmet_lacks_memory (ExprRefused fault) h = inl h.1
  unmet_lacks_memory Unbounded h = inl h.1
  unmet_lacks_memory (LongFile i) h = inl h.1
  unmet_lacks_memory (TooManyTriangles count) h = inl h.1
  unmet_lacks_memory TooManyWritten h = inl h.1
  unmet_lacks_memory (StepTooSmall extent) h = inl h.1
  unmet_lacks_memory TooFar h = inl h.1
  unmet_lacks_memory (DocumentRefused fault) h = inl h.1
  unmet_lacks_memory OutOfMemory h = h
  unmet_lacks_memory (Uncertified fault) h = inl h.1

  -- out-of-memory isn't hidden in another status
  unmet_tells_memory : (status : Status) → IsUnmet IsCause AreFiles target status → hides_memory status ≡ false
  unmet_tells_memory Done h = h.2
  unmet_tells_memory (Words refusal) h = h.2
  unmet_tells_memory StepOfNoGrid h = h.2
  unmet_tells_memory (ReadFault i kind) h = h.2
  unmet_tells_memory WriteFault h = h.2
  unmet_tells_memory (NotWritten file) h = refl
  unmet_tells_memory (FileRefused i reason) h = h.2
  unmet_tells_memory NoTriangles h = h.2
  unmet_tells_memory NotAScene h = h.2
  unmet_tells_memory (NotClosed o format) h = h.2
  unmet_tells_memory (ExprRefused fault) h = h.2
  unmet_tells_memory Unbounded h = h.2
  unmet_tells_memory (LongFile i) h = h.2
  unmet_tells_memory (TooManyTriangles count) h = h.2
  unmet_tells_memory TooManyWritten h = h.2
  unmet_tells_memory (StepTooSmall extent) h = h.2
  unmet_tells_memory TooFar h = h.2
  unmet_tells_memory (DocumentRefused fault) h = h.2
  unmet_tells_memory OutOfMemory h = refl
  unmet_tells_memory (Uncertified fault) h = h.2

  -- the numbers in the status can be shown
  pub unmet_is_shown : ((status : Status) → IsCause status → IsShown status) → (status : Status) → IsUnmet IsCause AreFiles target status → IsShown status
  unmet_is_shown shown Done h = shown Done h.0
  unmet_is_shown shown (Words refusal) h = shown (Words refusal) h.0
  unmet_is_shown shown StepOfNoGrid h = shown StepOfNoGrid h.0
  unmet_is_shown shown (ReadFault i kind) h = shown (ReadFault i kind) h.0
  unmet_is_shown shown WriteFault h = shown WriteFault h.0
  unmet_is_shown shown (NotWritten file) h = tt
  unmet_is_shown shown (FileRefused i reason) h = shown (FileRefused i reason) h.0
  unmet_is_shown shown NoTriangles h = shown NoTriangles h.0
  unmet_is_shown shown NotAScene h = shown NotAScene h.0
  unmet_is_shown shown (NotClosed o format) h = shown (NotClosed o format) h.0
  unmet_is_shown shown (ExprRefused fault) h = shown (ExprRefused fault) h.0
  unmet_is_shown shown Unbounded h = shown Unbounded h.0
  unmet_is_shown shown (LongFile i) h = shown (LongFile i) h.0
  unmet_is_shown shown (TooManyTriangles count) h = shown (TooManyTriangles count) h.0
  unmet_is_shown shown TooManyWritten h = shown TooManyWritten h.0
  unmet_is_shown shown (StepTooSmall extent) h = shown (StepTooSmall extent) h.0
  unmet_is_shown shown TooFar h = shown TooFar h.0
  unmet_is_shown shown (DocumentRefused fault) h = shown (DocumentRefused fault) h.0
  unmet_is_shown shown OutOfMemory h = tt
  unmet_is_shown shown (Uncertified fault) h = shown (Uncertified fault) h.0

  -- ---- outcomes
  -- of what isn't met this is said
  unmet_ends : (Writes : List ℕ → Type 0) (says : Status → List ℕ) → (IsCause Done → ⊥) →
      (status : Status) (text : List ℕ) → IsUnmet IsCause AreFiles target status → text ≡ says status →
      EndsAs Writes (IsUnmet IsCause AreFiles target) says status text
  unmet_ends Writes says never Done text h e = absurd (never h.0)
  unmet_ends Writes says never (Words refusal) text h e = (h, e)
  unmet_ends Writes says never StepOfNoGrid text h e = (h, e)
  unmet_ends Writes says never (ReadFault i kind) text h e = (h, e)
  unmet_ends Writes says never WriteFault text h e = (h, e)
  unmet_ends Writes says never (NotWritten file) text h e = (h, e)
  unmet_ends Writes says never (FileRefused i reason) text h e = (h, e)
  unmet_ends Writes says never NoTriangles text h e = (h, e)
  unmet_ends Writes says never NotAScene text h e = (h, e)
  unmet_ends Writes says never (NotClosed o format) text h e = (h, e)
  unmet_ends Writes says never (ExprRefused fault) text h e = (h, e)
  unmet_ends Writes says never Unbounded text h e = (h, e)
  unmet_ends Writes says never (LongFile i) text h e = (h, e)
  unmet_ends Writes says never (TooManyTriangles count) text h e = (h, e)
  unmet_ends Writes says never TooManyWritten text h e = (h, e)
  unmet_ends Writes says never (StepTooSmall extent) text h e = (h, e)
  unmet_ends Writes says never TooFar text h e = (h, e)
  unmet_ends Writes says never (DocumentRefused fault) text h e = (h, e)
  unmet_ends Writes says never OutOfMemory text h e = (h, e)
  unmet_ends Writes says never (Uncertified fault) text h e = (h, e)

  -- the same where a mesh may go to out, which took nothing
  unmet_ends_on : (out : SinkCall) (Writes : Status → List ℕ → Type 0) (says : Status → List ℕ) → (IsCause Done → ⊥) →
      (IsCause WriteFault → ⊥) → out.taken_after ≡ out.taken →
      (status : Status) (text : List ℕ) → IsUnmet IsCause AreFiles target status → text ≡ says status →
      EndsOn out Writes (IsUnmet IsCause AreFiles target) says status text
  unmet_ends_on out Writes says never unmet same Done text h e = absurd (never h.0)
  unmet_ends_on out Writes says never unmet same (Words refusal) text h e = (h, e, same)
  unmet_ends_on out Writes says never unmet same StepOfNoGrid text h e = (h, e, same)
  unmet_ends_on out Writes says never unmet same (ReadFault i kind) text h e = (h, e, same)
  unmet_ends_on out Writes says never unmet same WriteFault text h e = absurd (unmet h.0)
  unmet_ends_on out Writes says never unmet same (NotWritten file) text h e = (h, e, same)
  unmet_ends_on out Writes says never unmet same (FileRefused i reason) text h e = (h, e, same)
  unmet_ends_on out Writes says never unmet same NoTriangles text h e = (h, e, same)
  unmet_ends_on out Writes says never unmet same NotAScene text h e = (h, e, same)
  unmet_ends_on out Writes says never unmet same (NotClosed o format) text h e = (h, e, same)
  unmet_ends_on out Writes says never unmet same (ExprRefused fault) text h e = (h, e, same)
  unmet_ends_on out Writes says never unmet same Unbounded text h e = (h, e, same)
  unmet_ends_on out Writes says never unmet same (LongFile i) text h e = (h, e, same)
  unmet_ends_on out Writes says never unmet same (TooManyTriangles count) text h e = (h, e, same)
  unmet_ends_on out Writes says never unmet same TooManyWritten text h e = (h, e, same)
  unmet_ends_on out Writes says never unmet same (StepTooSmall extent) text h e = (h, e, same)
  unmet_ends_on out Writes says never unmet same TooFar text h e = (h, e, same)
  unmet_ends_on out Writes says never unmet same (DocumentRefused fault) text h e = (h, e, same)
  unmet_ends_on out Writes says never unmet same OutOfMemory text h e = (h, e, same)
  unmet_ends_on out Writes says never unmet same (Uncertified fault) text h e = (h, e, same)

  -- the text is made and said, or, for want of memory, that of out-of-memory is
  pub said_status_ends : {E : Type 0} (Writes : List ℕ → Type 0) (says : Status → List ℕ)
      (lacking : List ℕ) → says OutOfMemory ≡ lacking → (IsCause Done → ⊥) →
      (status result : Status) (err : SinkCall) (said : Result (Vec ℕ Global) E) →
      IsUnmet IsCause AreFiles target status → IfOk said (λ text. text.items ≡ says status) →
      IfOk said (λ text. (result ≡ status) × TakesUntilFault err text.items) →
      OnErr said ((result ≡ OutOfMemory) × TakesUntilFault err lacking) →
      (text : List ℕ) × EndsAs Writes (IsUnmet IsCause AreFiles target) says result text × TakesUntilFault err text
  said_status_ends Writes says lacking memory never status result err (Ok text) unmet made told without = (
    text.items,
    subst (λ (s : Status). EndsAs Writes (IsUnmet IsCause AreFiles target) says s text.items) (sym told.0)
        (unmet_ends Writes says never status text.items unmet made),
    told.1,
  )
  said_status_ends Writes says lacking memory never status result err (Err e) unmet made told without = (
    lacking,
    subst (λ (s : Status). EndsAs Writes (IsUnmet IsCause AreFiles target) says s lacking) (sym without.0) (unmet_lacks_memory status unmet, sym memory),
    without.1,
  )

  -- the same where a mesh may go to out, which took nothing
  pub said_status_ends_on : {E : Type 0} (out : SinkCall) (Writes : Status → List ℕ → Type 0) (says : Status → List ℕ)
      (lacking : List ℕ) → says OutOfMemory ≡ lacking → (IsCause Done → ⊥) → (IsCause WriteFault → ⊥) →
      out.taken_after ≡ out.taken →
      (status result : Status) (err : SinkCall) (said : Result (Vec ℕ Global) E) →
      IsUnmet IsCause AreFiles target status → IfOk said (λ text. text.items ≡ says status) →
      IfOk said (λ text. (result ≡ status) × TakesUntilFault err text.items) →
      OnErr said ((result ≡ OutOfMemory) × TakesUntilFault err lacking) →
      (text : List ℕ) × EndsOn out Writes (IsUnmet IsCause AreFiles target) says result text × TakesUntilFault err text
  said_status_ends_on out Writes says lacking memory never fault same status result err (Ok text) unmet made told without = (
    text.items,
    subst (λ (s : Status). EndsOn out Writes (IsUnmet IsCause AreFiles target) says s text.items) (sym told.0)
        (unmet_ends_on out Writes says never fault same status text.items unmet made),
    told.1,
  )
  said_status_ends_on out Writes says lacking memory never fault same status result err (Err e) unmet made told without = (
    lacking,
    subst (λ (s : Status). EndsOn out Writes (IsUnmet IsCause AreFiles target) says s lacking) (sym without.0) (unmet_lacks_memory status unmet, sym memory, same),
    without.1,
  )

  -- in both cases out-of-memory isn't hidden
  pub said_status_tells_memory : {E T : Type 0} (P : T →
      Type 0) (Q : Type 0) (status result : Status) (said : Result T E) → IsUnmet IsCause AreFiles target status →
      IfOk said (λ text. (result ≡ status) × P text) → OnErr said ((result ≡ OutOfMemory) × Q) →
      hides_memory result ≡ false
  said_status_tells_memory P Q status result (Ok text) unmet told without = ap hides_memory told.0 ∙ unmet_tells_memory status unmet
  said_status_tells_memory P Q status result (Err e) unmet told without = ap hides_memory without.0
