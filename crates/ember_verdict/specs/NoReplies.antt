-- Why a command has no reply
use Rattle.std.specs.Prelude.{◌≡◌, ◌≢◌, ⊤, ℕ, ◌-◌, true, false, List, ◌++◌, length, map, take, drop, None, Some}
use Rattle.std.specs.declared.option.Option.{Option}
use Rattle.ember_model.specs.declared.tri.Tri.{Tri}
use Rattle.ember_verdict.specs.Statuses.{IsRefusal, IsRefusalIfTold, hides_memory, is_before_files, is_refusal}
use Rattle.ember_verdict.specs.Statuses.{refused_file}
use Rattle.ember_io.specs.Calls.{ShelfCall, HasShelfFailed}
use Rattle.ember_io.specs.Shelves.{IsFileIn}
use Rattle.ember_words.specs.declared.command.Command.{Command}
use Rattle.ember_verdict.specs.Held.{MayHold, MayHoldOne}
use Rattle.ember_verdict.specs.Verdict.{Contents, Verdict, Unknown, Refused, Refuses, after_scene, first_told}
use Rattle.ember_verdict.specs.Verdict.{names_of, verdict_of}
use Rattle.ember_verdict.specs.declared.status.Status.{Status}
use Rattle.ember_verdict.specs.declared.status.Status.TheVariants.{Done, Words, ReadFault, WriteFault}
use Rattle.ember_verdict.specs.declared.status.Status.TheVariants.{ExprRefused, Unbounded, OutOfMemory}

-- the contents of the first n files, and others after them
abbrev pub with_others : ℕ → Contents → Contents → Contents
with_others n contents others = take n contents ++ drop n others

-- why file i, from 1, of this name gives nothing, whatever is asked of it; `step` reads its contents
pub record IsNoFile {A : Type 0} (step : Option (List ℕ) → (A → Verdict) → Verdict) (i : ℕ) (name : List ℕ)
    (shelf : ShelfCall) (status : Status) : Type 0 where
  -- a refusal is that of contents that the file may have
  pub refused : is_refusal status ≡ true → MayHoldOne (shelf.told name) (λ content. Refuses (step content) status)
  pub of_file : is_refusal status ≡ true → refused_file status ≡ Some i
  -- if the file can't be read, the shelf failed at it
  pub read_fault : (number : ℕ) → status ≡ ReadFault number →
      (number ≡ i) × HasShelfFailed shelf × (shelf.fault_at ≡ number)
  pub memory : hides_memory status ≡ false
  pub never : (status ≢ Done) × (status ≢ Words) × (status ≢ WriteFault)

-- why a command over files with these names has no reply; `verdict` is what it asks for, over any contents of them
pub record IsNoReply (verdict : Contents → Verdict) (names : List (List ℕ)) (shelf : ShelfCall)
    (status : Status) : Type 0 where
  -- a refusal is that of contents that the files may have
  pub refused : is_refusal status ≡ true → MayHold shelf.told names (λ contents. IsRefusal status (verdict contents))
  -- a refusal of the words or of the expression doesn't depend on any file: `first_told n` tells the first n files, so
  -- `first_told 0` tells none. (`verdict_before i` of `Serves` counts from 1: it tells the files before file i)
  pub before_files : is_before_files status ≡ true → verdict (first_told 0 (map shelf.told names)) ≡ Refused status
  -- a refusal of file i doesn't depend on the contents of the files after it
  pub in_file : (i : ℕ) → refused_file status ≡ Some i → (others : Contents) → length others ≡ length names →
      IsRefusalIfTold status (verdict (with_others i (map shelf.told names) others))
  pub one_of : (i : ℕ) → refused_file status ≡ Some i → IsFileIn names i
  -- if file i can't be read, nothing before it is refused: the first i - 1 files are told
  pub read_fault : (i : ℕ) → status ≡ ReadFault i → HasShelfFailed shelf × (shelf.fault_at ≡ i) ×
      (verdict (first_told (i - 1) (map shelf.told names)) ≡ Unknown) × IsFileIn names i
  -- the same by contents that the files may have, told or not
  pub nothing_before : (i : ℕ) → status ≡ ReadFault i → MayHold shelf.told names
      (λ contents. verdict (first_told (i - 1) contents) ≡ Unknown)
  pub memory : hides_memory status ≡ false
  pub never : (status ≢ Done) × (status ≢ Words) × (status ≢ WriteFault)

-- why this command has no reply
abbrev pub IsNoReplyTo : Command → ShelfCall → Status → Type 0
IsNoReplyTo command shelf status = IsNoReply (verdict_of (Some command)) (names_of (Some command)) shelf status

-- why files give no scene, whatever is asked of it
abbrev pub IsNoScene : ℕ → List (List ℕ) → ShelfCall → Status → Type 0
IsNoScene places names shelf status =
    (next : List Tri → Verdict) → IsNoReply (λ contents. after_scene places contents next) names shelf status

-- the refusals of an expression, and out-of-memory
abbrev pub IsOfExpression : Status → Type 0
IsOfExpression (ExprRefused fault) = hides_memory (ExprRefused fault) ≡ false
IsOfExpression Unbounded = ⊤
IsOfExpression OutOfMemory = ⊤
IsOfExpression _ = ⊥

-- why there is no reply, if the expression or out-of-memory is the reason; `verdict` is what is asked for
pub record IsNoReplyToExpression (verdict : Verdict) (status : Status) : Type 0 where
  pub refused : is_refusal status ≡ true → verdict ≡ Refused status
  pub of_expression : IsOfExpression status

-- why a text gives no expression, whatever is asked of it; `step` reads the text
abbrev pub IsNoExpression : {A : Type 0} → ((A → Verdict) → Verdict) → Status → Type 0
IsNoExpression {A} step status = (next : A → Verdict) → IsNoReplyToExpression (step next) status

-- a status that isn't about the words or the expression, nor about one file
pub record IsAfterFiles (status : Status) : Type 0 where
  pub not_before : is_before_files status ≡ false
  pub no_file : refused_file status ≡ None
  pub memory : hides_memory status ≡ false
