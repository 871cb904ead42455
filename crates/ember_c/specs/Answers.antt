-- What a struct for C says of an outcome. Of a block it says how long it is, and not which bytes are there
use Rattle.std.specs.Prelude.{◌≡◌, ◌⊎◌, ℕ, List, length}
use Rattle.ember_c.specs.declared.answer.Answer.{Answer}
use Rattle.ember_call.specs.Calls.{IsOutcome}
use Rattle.ember_call.specs.MeshCalls.{IsMeshOutcome}
use Rattle.ember_call.specs.declared.outcome.Outcome.{Outcome}

-- the numbers are those of the outcome, and each block is as long as its vector
pub record IsAnswerOf (outcome : Outcome) (answer : Answer) : Type 0 where
  pub status : answer.status ≡ outcome.status
  pub file : answer.file ≡ outcome.file
  pub place : answer.place ≡ outcome.place
  pub out : answer.out.len ≡ length outcome.out.items
  pub err : answer.err.len ≡ length outcome.err.items
  pub files : answer.file_count ≡ length outcome.files.items

-- there is nothing but a status
pub record HasNothing (status : ℕ) (answer : Answer) : Type 0 where
  pub is_status : answer.status ≡ status
  pub file : answer.file ≡ 0
  pub place : answer.place ≡ 0
  pub out : answer.out.len ≡ 0
  pub err : answer.err.len ≡ 0
  pub files : answer.file_count ≡ 0

-- the answer to a call of `ember` with these words and files
abbrev pub AnswersCall : List (List ℕ) → List (List ℕ × List ℕ) → Answer → Type 0
AnswersCall words files answer =
    ((outcome : Outcome) × IsOutcome words files outcome × IsAnswerOf outcome answer) ⊎ HasNothing 12 answer

-- the answer to a call of `ember-mesh` with these words and files
abbrev pub AnswersMeshCall : List (List ℕ) → List (List ℕ × List ℕ) → Answer → Type 0
AnswersMeshCall words files answer =
    ((outcome : Outcome) × IsMeshOutcome words files outcome × IsAnswerOf outcome answer) ⊎ HasNothing 12 answer
