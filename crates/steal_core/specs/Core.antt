-- The boxes of a run: in hands, in deques, and ended.
use Rattle.std.specs.Prelude.{◌≡◌, ℕ, ◌+◌, ◌*◌, ◌/◌, ◌^◌, ◌<◌, ◌≤◌, List, [], ◌∷◌, ◌++◌, length}
use Rattle.std.specs.Prelude.{if◌then◌else◌, ◌==◌, ◌&&◌, Bool, true, false, ⊤}
use Rattle.steal_core.specs.declared.place.Place.{Place}
use Rattle.steal_core.specs.declared.place.Place.TheVariants.{Hand, Deque, Ended}
use Rattle.steal_core.specs.declared.place.Placed.{Placed}
use Rattle.steal_core.specs.declared.place.Event.{Event}
use Rattle.steal_core.specs.declared.place.Event.TheVariants.{Push, Hold, Pop, Steal, Drain, Finish}

-- a state: the number of workers, for how many boxes it has room, and each box with its place, in the order in which
-- the boxes were made
pub record Core : Type 0 where
  pub workers : ℕ
  pub room : ℕ
  pub boxes : List Placed

-- a state by its fields
abbrev pub core : ℕ → ℕ → List Placed → Core
core workers room boxes = record { workers = workers; room = room; boxes = boxes }

-- a box by its fields
abbrev pub placed : Place → ℕ → Placed
placed place path = record { place = place; path = path }

-- the start: worker 0 holds box 1
abbrev pub begin : ℕ → ℕ → Core
begin workers room = core workers room (placed (Hand 0) 1 ∷ [])

-- whether it is this box in that hand
abbrev pub in_hand : ℕ → Place → Bool
in_hand by (Hand i) = i == by
in_hand by (Deque i) = false
in_hand by Ended = false

abbrev pub is_held : ℕ → ℕ → Placed → Bool
is_held by path s = in_hand by s.place && s.path == path

-- whether it is in that deque
abbrev pub in_deque : ℕ → Place → Bool
in_deque from (Hand i) = false
in_deque from (Deque i) = i == from
in_deque from Ended = false

abbrev pub is_queued : ℕ → Placed → Bool
is_queued from s = in_deque from s.place

-- it is true for none
abbrev pub HasNone : (Placed → Bool) → List Placed → Type 0
HasNone P [] = ⊤
HasNone P (s ∷ ss) = (P s ≡ false) × HasNone P ss

-- the first, and the last, for which it is true
abbrev pub FirstAt : (Placed → Bool) → List Placed → ℕ → Type 0
FirstAt P boxes i = (front back : List Placed) × (s : Placed) × (boxes ≡ front ++ s ∷ back) × (P s ≡ true) ×
    HasNone P front × (i ≡ length front)

abbrev pub LastAt : (Placed → Bool) → List Placed → ℕ → Type 0
LastAt P boxes i = (front back : List Placed) × (s : Placed) × (boxes ≡ front ++ s ∷ back) × (P s ≡ true) ×
    HasNone P back × (i ≡ length front)

-- ---- each event's step
-- a box in a hand ended, and its halves were added, the left one in the same hand
pub record Halves (by path : ℕ) (right : Place) (old new : Core) : Type 0 where
  pub front : List Placed
  pub back : List Placed
  pub old_boxes : old.boxes ≡ front ++ placed (Hand by) path ∷ back
  pub is_new : new ≡ core old.workers old.room ((front ++ placed Ended path ∷ back) ++ placed (Hand by) (2 * path) ∷
      placed right (2 * path + 1) ∷ [])

-- a box moved to another place
pub record Moves (from to : Place) (path : ℕ) (front back : List Placed) (old new : Core) : Type 0 where
  pub old_boxes : old.boxes ≡ front ++ placed from path ∷ back
  pub is_new : new ≡ core old.workers old.room (front ++ placed to path ∷ back)

-- the step of an event. Pop and Drain take the last box of a deque, Steal takes the first
abbrev pub Steps : Event → Core → Core → Type 0
Steps (Push by path) old new = (by < old.workers) × Halves by path (Deque by) old new
Steps (Hold by path) old new = (by ≤ old.workers) × Halves by path (Hand by) old new
Steps (Pop by) old new = (by < old.workers) × (path : ℕ) × (front back : List Placed) ×
    Moves (Deque by) (Hand by) path front back old new × HasNone (is_queued by) back
Steps (Steal by from) old new = (by < old.workers) × (from < old.workers) × (path : ℕ) × (front back : List Placed) ×
    Moves (Deque from) (Hand by) path front back old new × HasNone (is_queued from) front
Steps (Drain from) old new = (from < old.workers) × (path : ℕ) × (front back : List Placed) ×
    Moves (Deque from) (Hand old.workers) path front back old new × HasNone (is_queued from) back
Steps (Finish by path) old new =
    (by ≤ old.workers) × (front back : List Placed) × Moves (Hand by) Ended path front back old new

-- the event is no step in this state
abbrev pub NoStep : Event → Core → Type 0
NoStep e old = (new : Core) → Steps e old new → ⊥

-- there is room for the event
abbrev pub Fits : Event → Core → Type 0
Fits (Push by path) old = (length old.boxes + 2 ≤ old.room) × (path < 2 ^ 36)
Fits (Hold by path) old = (length old.boxes + 2 ≤ old.room) × (path < 2 ^ 36)
Fits (Pop by) old = ⊤
Fits (Steal by from) old = ⊤
Fits (Drain from) old = ⊤
Fits (Finish by path) old = ⊤

-- what `apply` did, by its answer
abbrev pub OnAnswer : Bool → Event → Core → Core → Type 0
OnAnswer true e old new = Steps e old new
OnAnswer false e old new = (new ≡ old) × NoStep e old

-- the states after a list of events
pub data Reached (workers room : ℕ) : List Event → Core → Type 0 where
  at_start : Reached workers room [] (begin workers room)
  stepped : (es : List Event) (e : Event) (old new : Core) → Reached workers room es old → Steps e old new →
      Reached workers room (es ++ e ∷ []) new
  refused : (es : List Event) (e : Event) (old : Core) → Reached workers room es old → NoStep e old →
      Reached workers room (es ++ e ∷ []) old

-- every hand and deque is empty
abbrev pub IsEnded : Place → Type 0
IsEnded (Hand i) = ⊥
IsEnded (Deque i) = ⊥
IsEnded Ended = ⊤

-- every box of the list has ended
abbrev pub AllEnded : List Placed → Type 0
AllEnded [] = ⊤
AllEnded (s ∷ ss) = IsEnded s.place × AllEnded ss

-- weights of boxes: of all, and of the ended ones
abbrev pub weigh : (ℕ → ℕ) → List Placed → ℕ
weigh h [] = 0
weigh h (s ∷ ss) = h s.path + weigh h ss

abbrev pub if_ended : Place → ℕ → ℕ
if_ended (Hand i) n = 0
if_ended (Deque i) n = 0
if_ended Ended n = n

abbrev pub weigh_ended : (ℕ → ℕ) → List Placed → ℕ
weigh_ended h [] = 0
weigh_ended h (s ∷ ss) = if_ended s.place (h s.path) + weigh_ended h ss

-- 1 for x itself, otherwise 0
abbrev pub one : ℕ → ℕ → ℕ
one x y = if y == x then 1 else 0

-- how often a box has ended
abbrev pub ended_times : ℕ → List Placed → ℕ
ended_times path boxes = weigh_ended (one path) boxes

-- no box is in two places, no path is 0, each box but box 1 has an ended parent, and a box exists exactly if its
-- sibling does
pub record IsGood (s : Core) : Type 0 where
  pub once : (x : ℕ) → weigh (one x) s.boxes ≤ 1
  pub positive : weigh (one 0) s.boxes ≡ 0
  pub parents : (x : ℕ) → 1 < x → 0 < weigh (one x) s.boxes → 0 < weigh_ended (one (x / 2)) s.boxes
  pub siblings : (p : ℕ) → 0 < p → weigh (one (2 * p)) s.boxes ≡ weigh (one (2 * p + 1)) s.boxes
