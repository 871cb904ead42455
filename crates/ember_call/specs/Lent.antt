-- What a caller lends
use Rattle.std.specs.Prelude.{ℕ, List, map, Some, unwrap_or, replicate}
use Rattle.std.specs.declared.option.Option.{Option}
use Rattle.ember_call.specs.declared.lent.Lent.{Lent}
use Rattle.ember_call.specs.declared.lent.LentFile.{LentFile}
use Rattle.ember_io.specs.Files.{first_of}

-- the bytes of each word
abbrev pub word_bytes : List Lent → List (List ℕ)
word_bytes words = map (λ (word : Lent). word.bytes.now) words

-- the name and the bytes of each file
abbrev pub named_bytes : List LentFile → List (List ℕ × List ℕ)
named_bytes files = map (λ (file : LentFile). (file.name.now, file.bytes.now)) files

-- that many bytes
unfoldable pub zeros : ℕ → List ℕ
zeros count = replicate count 0

-- more bytes than any command reads from a file: 2^28 + 1. Proofs know how many there are, and don't compute the list
abbrev pub too_many_bytes : List ℕ
too_many_bytes = zeros 268435457

-- what the contracts of a call take a name to hold: the bytes of the first file that has it. A name that no file has
-- counts as a file that is too long, so nothing is said to be made of it
abbrev pub contents_of : List (List ℕ × List ℕ) → List ℕ → Option (List ℕ)
contents_of files name = Some (unwrap_or (first_of files name) too_many_bytes)

-- what contracts see of a shelf of lent files
pub record LentState : Type 0 where
  pub files : List (List ℕ × List ℕ)
  pub unread : List ℕ
  pub begun : ℕ
  pub fault_at : ℕ
  pub faults : ℕ
