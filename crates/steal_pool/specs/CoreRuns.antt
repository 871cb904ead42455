-- Journals as a run of the core.
use Rattle.std.specs.Prelude.{◌≡◌, ℕ, List}
use Rattle.steal_core.specs.declared.place.Placed.{Placed}
use Rattle.steal_core.specs.declared.place.Event.{Event}
use Rattle.steal_core.specs.Core.{core, begin, AllEnded}
use Rattle.steal_core.specs.Runs.{Run, halved_by, finished_by}
use Rattle.ember_job.specs.Weights.{weigh, one}
use Rattle.ember_job.specs.declared.job.Kind.{Kind}
use Rattle.ember_job.specs.declared.job.Kind.TheVariants.{Halved, Leafed, Passed}
use Rattle.ember_job.specs.declared.job.Entry.{Entry}
use Rattle.steal_pool.specs.Journals.{times_halved, journal_of}

-- a number, or 0 for a halved box
abbrev pub unless_halved : Kind → ℕ → ℕ
unless_halved Halved n = 0
unless_halved Leafed n = n
unless_halved Passed n = n

-- 1 for an entry with this path that isn't of a halved box, otherwise 0
abbrev pub unless_halved_at : ℕ → Entry → ℕ
unless_halved_at path e = unless_halved e.kind (one path e.path)

-- how often a path occurs in a journal as that of a box that isn't halved
abbrev pub times_finished : ℕ → List Entry → ℕ
times_finished path journal = weigh (unless_halved_at path) journal

-- a list of steps of the core from the start, after which every hand and deque is empty. In it each number (of a
-- worker, or of the caller) ends by Push or Hold exactly the halved boxes of its journal, and by Finish exactly the
-- others
pub record IsCoreRun (workers room : ℕ) (journals : List (List Entry)) : Type 0 where
  pub events : List Event
  pub last : List Placed
  pub run : Run (begin workers room) events (core workers room last)
  pub ended : AllEnded last
  pub halved : (k path : ℕ) → weigh (one path) (halved_by k events) ≡ times_halved path (journal_of k journals)
  pub finished : (k path : ℕ) → weigh (one path) (finished_by k events) ≡ times_finished path (journal_of k journals)
