-- What comes of a request whose files are written, and whose mesh may go to standard output
use Rattle.std.proofs.Common.{◌≡◌, ◌⊎◌, inl, inr, ℕ, Bool, List, refl, sym, subst}
use Rattle.std.specs.Prelude.{Some, None}
use Rattle.std.specs.declared.option.Option.{Option}
use Rattle.ember_io.specs.Calls.{SinkCall}
use Rattle.mesh_run.specs.Serves.{IsSent}
use Rattle.mesh_run.specs.Unmet.{EndsOn}
use Rattle.mesh_refusal.specs.declared.status.Status.{Status}
use Rattle.mesh_refusal.specs.declared.status.Status.TheVariants.{Done, Words, StepOfNoGrid, ReadFault, WriteFault}
use Rattle.mesh_refusal.specs.declared.status.Status.TheVariants.{NotWritten, FileRefused, NoTriangles, NotAScene}
use Rattle.mesh_refusal.specs.declared.status.Status.TheVariants.{NotClosed, ExprRefused, Unbounded, LongFile}
use Rattle.mesh_refusal.specs.declared.status.Status.TheVariants.{TooManyTriangles, TooManyWritten, StepTooSmall}
use Rattle.mesh_refusal.specs.declared.status.Status.TheVariants.{TooFar, DocumentRefused, OutOfMemory, Uncertified}

-- it ends well, or out fails
pub sent_status : (json : Bool) (sent : Option (List ℕ)) (report : List ℕ) (out : SinkCall) (status : Status) (text : List ℕ) →
    IsSent json sent report out status text → (status ≡ Done) ⊎ (status ≡ WriteFault)
sent_status json None report out status text h = inl h.0
sent_status json (Some mesh) report out Done text h = inl refl
sent_status json (Some mesh) report out (Words refusal) text h = absurd h
sent_status json (Some mesh) report out StepOfNoGrid text h = absurd h
sent_status json (Some mesh) report out (ReadFault i kind) text h = absurd h
sent_status json (Some mesh) report out WriteFault text h = inr refl
sent_status json (Some mesh) report out (NotWritten file) text h = absurd h
sent_status json (Some mesh) report out (FileRefused i reason) text h = absurd h
sent_status json (Some mesh) report out NoTriangles text h = absurd h
sent_status json (Some mesh) report out NotAScene text h = absurd h
sent_status json (Some mesh) report out (NotClosed o format) text h = absurd h
sent_status json (Some mesh) report out (ExprRefused fault) text h = absurd h
sent_status json (Some mesh) report out Unbounded text h = absurd h
sent_status json (Some mesh) report out (LongFile i) text h = absurd h
sent_status json (Some mesh) report out (TooManyTriangles count) text h = absurd h
sent_status json (Some mesh) report out TooManyWritten text h = absurd h
sent_status json (Some mesh) report out (StepTooSmall extent) text h = absurd h
sent_status json (Some mesh) report out TooFar text h = absurd h
sent_status json (Some mesh) report out (DocumentRefused fault) text h = absurd h
sent_status json (Some mesh) report out OutOfMemory text h = absurd h
sent_status json (Some mesh) report out (Uncertified fault) text h = absurd h

-- so it ends as a request whose files are written
pub written_ends : (out : SinkCall) (Writes : Status → List ℕ → Type 0) (Unmet : Status → Type 0)
    (says : Status → List ℕ) (status : Status) (text : List ℕ) → (status ≡ Done) ⊎ (status ≡ WriteFault) →
    Writes status text → EndsOn out Writes Unmet says status text
written_ends out Writes Unmet says status text (inl e) h =
    subst (λ (s : Status). EndsOn out Writes Unmet says s text) (sym e) (subst (λ (s : Status). Writes s text) e h)
written_ends out Writes Unmet says status text (inr e) h =
    subst (λ (s : Status). EndsOn out Writes Unmet says s text) (sym e) (subst (λ (s : Status). Writes s text) e h)
