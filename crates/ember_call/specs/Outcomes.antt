-- Outcomes in which a program has written nothing, and what numbers say of statuses
use Rattle.std.specs.Prelude.{◌≡◌, ℕ, List, [], All}
use Rattle.std.specs.Str.{IsUtf8}
use Rattle.ember_call.specs.declared.outcome.Outcome.{Outcome}

-- the status is this number, and nothing is said and nothing is written
pub record SaysNothing (number : ℕ) (outcome : Outcome) : Type 0 where
  pub status : outcome.status ≡ number
  pub file : outcome.file ≡ 0
  pub place : outcome.place ≡ 0
  pub out : outcome.out.items ≡ []
  pub err : outcome.err.items ≡ []
  pub files : outcome.files.items ≡ []

-- there was no memory for what the program writes
abbrev pub LacksMemory : Outcome → Type 0
LacksMemory outcome = SaysNothing 12 outcome

-- one of the words is no text
abbrev pub LacksText : List (List ℕ) → Outcome → Type 0
LacksText words outcome = SaysNothing 13 outcome × ¬ (All IsUtf8 words)
