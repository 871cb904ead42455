-- What contracts see of the shelves and the sink in memory.
use Rattle.std.specs.Prelude.{◌≡◌, ℕ, ◌<◌, ◌≤◌, List, length, None, ◌⊎◌, Contains}
use Rattle.ember_io.specs.Causes.{next_count}
use Rattle.ember_io.specs.Files.{first_of}
use Rattle.ember_io.specs.declared.shelf.FaultKind.{FaultKind}
use Rattle.ember_io.specs.declared.shelf.FaultKind.TheVariants.{NotFound, Other}

-- a shelf whose chosen calls fail
pub record ShelfState : Type 0 where
  pub files : List (List ℕ × List ℕ)
  pub piece : ℕ
  pub failing : List ℕ
  pub calls : ℕ
  pub unread : List ℕ
  pub begun : ℕ
  pub fault_at : ℕ
  pub fault_kind : FaultKind
  pub faults : ℕ

-- a shelf that never fails
pub record SafeState : Type 0 where
  pub files : List (List ℕ × List ℕ)
  pub unread : List ℕ
  pub begun : ℕ

-- a sink whose chosen calls fail
pub record SinkState : Type 0 where
  pub bytes : List ℕ
  pub room : ℕ
  pub piece : ℕ
  pub failing : List ℕ
  pub calls : ℕ
  pub flushed : ℕ
  pub faults : ℕ

-- what a shelf is made with stays
pub record IsSameShelf (old new : ShelfState) : Type 0 where
  pub files : new.files ≡ old.files
  pub piece : new.piece ≡ old.piece
  pub failing : new.failing ≡ old.failing

-- what a sink is made with stays
pub record IsSameSink (old new : SinkState) : Type 0 where
  pub room : new.room ≡ old.room
  pub piece : new.piece ≡ old.piece
  pub failing : new.failing ≡ old.failing

-- the next call is chosen to fail, or no file has that name
abbrev pub FailsToBegin : ShelfState → List ℕ → Type 0
FailsToBegin s name = Contains s.failing (next_count s.calls) ⊎ (first_of s.files name ≡ None)

-- a call that isn't chosen to fail fails for want of a file, and any other as it may
abbrev pub IsKindOfBegin : ShelfState → FaultKind → Type 0
IsKindOfBegin s kind =
    (Contains s.failing (next_count s.calls) → kind ≡ Other)
    × (¬ Contains s.failing (next_count s.calls) → kind ≡ NotFound)

-- the next call is chosen to fail, or there are bytes to take and the room is used up
abbrev pub FailsToWrite : SinkState → List ℕ → Type 0
FailsToWrite s bytes = Contains s.failing (next_count s.calls) ⊎ ((0 < length bytes) × (s.room ≤ length s.bytes))
