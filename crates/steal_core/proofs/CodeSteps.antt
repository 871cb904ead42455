-- The code's answers as steps.
use Rattle.std.proofs.Common.{◌≡◌, ℕ, zero, suc, ◌+◌, ◌*◌, ◌<◌, List, [], ◌∷◌, ◌++◌, length, ◌==◌, ◌&&◌, Bool, true}
use Rattle.std.proofs.Common.{false, true≢false, refl, sym, ap, ap₂, ◌∙◌, subst, append_assoc, length-append, slice_set}
use Rattle.std.proofs.Common.{slice_index_or, inl, inr, arith}
use Rattle.std.proofs.lemmas.Bool.Decides.{eqb_tells}
use Rattle.steal_core.specs.declared.place.Place.{Place}
use Rattle.steal_core.specs.declared.place.Place.TheVariants.{Hand, Deque, Ended}
use Rattle.steal_core.specs.declared.place.Placed.{Placed}
use Rattle.steal_core.specs.declared.place.Event.TheVariants.{Push, Hold, Pop, Steal, Drain, Finish}
use Rattle.steal_core.specs.Core.{Core, core, placed, is_held, is_queued, in_hand, in_deque, HasNone, FirstAt, LastAt, Halves, Moves, Steps, NoStep}

none_snoc : (P : Placed → Bool) (xs : List Placed) (x : Placed) → HasNone P xs → P x ≡ false → HasNone P (xs ++ x ∷ [])
none_snoc P [] x h n = (n, tt)
none_snoc P (y ∷ ys) x h n = (h.0, none_snoc P ys x h.1 n)

-- one more place is search_passes_one at
pub search_passes_one : (P : Placed → Bool) (boxes rest after : List Placed) (x : Placed) (i : ℕ) →
    ((front : List Placed) × (boxes ≡ front ++ rest) × HasNone P front × (i ≡ length front)) → rest ≡ x ∷ after →
    P x ≡ false → (front : List Placed) × (boxes ≡ front ++ after) × HasNone P front × (i + 1 ≡ length front)
search_passes_one P boxes rest after x i k is other = (
  k.0 ++ x ∷ [],
  k.1 ∙ ap (λ r. k.0 ++ r) is ∙ sym (append_assoc k.0 (x ∷ []) after),
  none_snoc P k.0 x k.2 other,
  omega (arith, k.3, length-append k.0 (x ∷ [])),
)

none_at : (P : Placed → Bool) (front back : List Placed) (x : Placed) → HasNone P (front ++ x ∷ back) → P x ≡ false
none_at P [] back x h = h.0
none_at P (y ∷ front) back x h = none_at P front back x h.1

-- a number equals itself, as a truth value
pub equal_self : (n : ℕ) → (n == n) ≡ true
equal_self n = elim (eqb_tells n n) [ inl h ↦ h.0 | inr h ↦ absurd (h.1 refl) ]

held_self : (by path : ℕ) → is_held by path (placed (Hand by) path) ≡ true
held_self by path = rw (equal_self by, equal_self path) refl

queued_self : (from path : ℕ) → is_queued from (placed (Deque from) path) ≡ true
queued_self from path = equal_self from

both_true : (a b : Bool) → (a && b) ≡ true → (a ≡ true) × (b ≡ true)
both_true true b e = (refl, e)
both_true false b e = absurd (true≢false (sym e))

equal_true : (a b : ℕ) → (a == b) ≡ true → a ≡ b
equal_true a b e = elim (eqb_tells a b) [ inl h ↦ h.1 | inr h ↦ absurd (true≢false (sym e ∙ h.0)) ]

hand_is : (by : ℕ) (place : Place) → in_hand by place ≡ true → place ≡ Hand by
hand_is by (Hand i) e = ap Hand (equal_true i by e)
hand_is by (Deque i) e = absurd (true≢false (sym e))
hand_is by Ended e = absurd (true≢false (sym e))

-- a box in a hand of another number isn't held there
pub in_another_hand : (hand by path : ℕ) (s : Placed) → s.place ≡ Hand hand → (hand ≡ by → ⊥) → (hand == by) ≡ is_held by path s
in_another_hand hand by path s is other = elim (eqb_tells hand by) [ inl h ↦ absurd (other h.1) | inr h ↦ rw (is, h.0) refl ]

deque_is : (from : ℕ) (place : Place) → in_deque from place ≡ true → place ≡ Deque from
deque_is from (Hand i) e = absurd (true≢false (sym e))
deque_is from (Deque i) e = ap Deque (equal_true i from e)
deque_is from Ended e = absurd (true≢false (sym e))

held_is : (by path : ℕ) (s : Placed) → is_held by path s ≡ true → s ≡ placed (Hand by) path
held_is by path s e = let b = both_true (in_hand by s.place) (s.path == path) e in ap₂ placed (hand_is by s.place b.0) (equal_true s.path path b.1)

queued_is : (from : ℕ) (s : Placed) → is_queued from s ≡ true → s ≡ placed (Deque from) s.path
queued_is from s e = ap (λ p. placed p s.path) (deque_is from s.place e)

-- if nothing is found, there is no step
no_held : (by path : ℕ) (boxes front back : List Placed) → HasNone (is_held by path) boxes → boxes ≡ front ++ placed (Hand by) path ∷ back → ⊥
no_held by path boxes front back none is = true≢false
    (sym (held_self by path) ∙ none_at (is_held by path) front back (placed (Hand by) path)
    (subst (HasNone (is_held by path)) is none))

no_queued : (from path : ℕ) (boxes front back : List Placed) → HasNone (is_queued from) boxes → boxes ≡ front ++ placed (Deque from) path ∷ back → ⊥
no_queued from path boxes front back none is = true≢false
    (sym (queued_self from path) ∙ none_at (is_queued from) front back (placed (Deque from) path)
    (subst (HasNone (is_queued from)) is none))

-- if the worker doesn't hold the box, Push is no step
pub no_push : (by path : ℕ) (old : Core) → HasNone (is_held by path) old.boxes → NoStep (Push by path) old
no_push by path old none new s = no_held by path old.boxes s.1.front s.1.back none s.1.old_boxes

-- and neither is Hold
pub no_hold : (by path : ℕ) (old : Core) → HasNone (is_held by path) old.boxes → NoStep (Hold by path) old
no_hold by path old none new s = no_held by path old.boxes s.1.front s.1.back none s.1.old_boxes

-- nor Finish
pub no_finish : (by path : ℕ) (old : Core) → HasNone (is_held by path) old.boxes → NoStep (Finish by path) old
no_finish by path old none new s = no_held by path old.boxes s.1 s.2 none s.3.old_boxes

-- if the deque is empty, Pop is no step
pub no_pop : (by : ℕ) (old : Core) → HasNone (is_queued by) old.boxes → NoStep (Pop by) old
no_pop by old none new s = no_queued by s.1 old.boxes s.2 s.3 none s.4.old_boxes

-- and neither is Steal
pub no_steal : (by from : ℕ) (old : Core) → HasNone (is_queued from) old.boxes → NoStep (Steal by from) old
no_steal by from old none new s = no_queued from s.2 old.boxes s.3 s.4 none s.5.old_boxes

-- nor Drain
pub no_drain : (from : ℕ) (old : Core) → HasNone (is_queued from) old.boxes → NoStep (Drain from) old
no_drain from old none new s = no_queued from s.1 old.boxes s.2 s.3 none s.4.old_boxes

-- a change of one place
set_at : (front back : List Placed) (x y : Placed) (i : ℕ) → i ≡ length front → slice_set (front ++ x ∷ back) i y ≡ front ++ y ∷ back
set_at [] back x y zero e = refl
set_at [] back x y (suc i) e = absurd (omega arith)
set_at (z ∷ front) back x y zero e = absurd (omega arith)
set_at (z ∷ front) back x y (suc i) e = ap (λ r. z ∷ r) (set_at front back x y i (omega arith))

-- what `relocate` does
abbrev pub Relocates : ℕ → Place → Core → Core → Type 0
Relocates i to old new = (front back : List Placed) (s : Placed) → old.boxes ≡ front ++ s ∷ back → i ≡ length front →
    new ≡ core old.workers old.room (front ++ placed to s.path ∷ back)

first_moves : (from i : ℕ) (to : Place) (old new : Core) → (at : FirstAt (is_queued from) old.boxes i) →
    Relocates i to old new → Moves (Deque from) to at.2.path at.0 at.1 old new
first_moves from i to old new at r = record {
  old_boxes = at.3 ∙ ap (λ s. at.0 ++ s ∷ at.1) (queued_is from at.2 at.4);
  is_new = r at.0 at.1 at.2 at.3 at.6;
}

last_moves : (from i : ℕ) (to : Place) (old new : Core) → (at : LastAt (is_queued from) old.boxes i) →
    Relocates i to old new → Moves (Deque from) to at.2.path at.0 at.1 old new
last_moves from i to old new at r = record {
  old_boxes = at.3 ∙ ap (λ s. at.0 ++ s ∷ at.1) (queued_is from at.2 at.4);
  is_new = r at.0 at.1 at.2 at.3 at.6;
}

-- moving the first box of a deque to a worker's hand is the step of Steal
pub steps_steal : (by from i : ℕ) (old new : Core) → by < old.workers → from < old.workers →
    FirstAt (is_queued from) old.boxes i → Relocates i (Hand by) old new → Steps (Steal by from) old new
steps_steal by from i old new few there at r = (few, there, at.2.path, at.0, at.1, first_moves from i (Hand by) old new at r, at.5)

-- moving the last box of a deque to the caller's hand is the step of Drain
pub steps_drain : (from i : ℕ) (old new : Core) → from < old.workers → LastAt (is_queued from) old.boxes i →
    Relocates i (Hand old.workers) old new → Steps (Drain from) old new
steps_drain from i old new few at r = (few, at.2.path, at.0, at.1, last_moves from i (Hand old.workers) old new at r, at.5)

-- the program's changes to the list are the step of a halving
pub steps_halve : (by path i : ℕ) (right : Place) (boxes after : List Placed) (workers room : ℕ) →
    FirstAt (is_held by path) boxes i → after ≡ (slice_set boxes i (placed Ended path) ++ placed (Hand by) (2 * path)
    ∷ []) ++ placed right (2 * path + 1) ∷ [] → Halves by path right (core workers room boxes) (core workers room after)
steps_halve by path i right boxes after workers room at is =
    let here : boxes ≡ at.0 ++ placed (Hand by) path ∷ at.1 = at.3 ∙ ap (λ s. at.0 ++ s ∷ at.1) (held_is by path at.2 at.4) in
    let ended : slice_set boxes i (placed Ended path) ≡ at.0 ++ placed Ended path ∷ at.1 =
    ap (λ xs. slice_set xs i (placed Ended path)) here
    ∙ set_at at.0 at.1 (placed (Hand by) path) (placed Ended path) i at.6 in record {
      front = at.0;
      back = at.1;
      old_boxes = here;
      is_new = ap (λ xs. core workers room xs) (is
          ∙ ap (λ xs. (xs ++ placed (Hand by) (2 * path) ∷ []) ++ placed right (2 * path + 1) ∷ []) ended
          ∙ append_assoc (at.0 ++ placed Ended path ∷ at.1) (placed (Hand by) (2 * path) ∷ [])
          (placed right (2 * path + 1) ∷ []));
    }

-- setting the place of the box at i relocates it
pub box_is_relocated : (i path : ℕ) (to : Place) (boxes after : List Placed) (workers room : ℕ) →
    ((front back : List Placed) (s : Placed) → boxes ≡ front ++ s ∷ back → i ≡ length front → path ≡ s.path) →
    after ≡ slice_set boxes i (placed to path) → Relocates i to (core workers room boxes) (core workers room after)
box_is_relocated i path to boxes after workers room same is front back s here there =
    ap (λ xs. core workers room xs) (is ∙ ap (λ xs. slice_set xs i (placed to path)) here
    ∙ set_at front back s (placed to path) i there ∙ ap (λ p. front ++ placed to p ∷ back) (same front back s here there))

-- the item just behind a front of i items has the index i
pub at_seam : (front back : List Placed) (s d : Placed) (i : ℕ) → i ≡ length front → slice_index_or (front ++ s ∷ back) i d ≡ s
at_seam [] back s d zero e = refl
at_seam [] back s d (suc i) e = absurd (omega arith)
at_seam (z ∷ front) back s d zero e = absurd (omega arith)
at_seam (z ∷ front) back s d (suc i) e = at_seam front back s d i (omega arith)

-- the index of the first such box is in range
pub first_below : (P : Placed → Bool) (boxes : List Placed) (i : ℕ) → FirstAt P boxes i → i < length boxes
first_below P boxes i at = omega (arith, at.6, ap length at.3, length-append at.0 (at.2 ∷ at.1))

-- the index of the last such box is in range
pub last_below : (P : Placed → Bool) (boxes : List Placed) (i : ℕ) → LastAt P boxes i → i < length boxes
last_below P boxes i at = omega (arith, at.6, ap length at.3, length-append at.0 (at.2 ∷ at.1))

-- equal lists have no such member alike
pub has_none_same : (P : Placed → Bool) (xs ys : List Placed) → HasNone P xs → xs ≡ ys → HasNone P ys
has_none_same P xs ys h e = subst (HasNone P) e h
