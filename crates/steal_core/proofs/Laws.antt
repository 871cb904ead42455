-- Each step keeps the state good.
use Rattle.std.proofs.Common.{◌≡◌, ◌≢◌, ◌⊎◌, ℕ, zero, suc, ◌+◌, ◌*◌, ◌/◌, ◌<◌, ◌≤◌, List, [], ◌∷◌, ◌++◌, refl, sym, ap, ◌∙◌, subst, inl, inr, arith}
use Rattle.std.proofs.lemmas.Bool.Decides.{eqb_tells}
use Rattle.steal_core.specs.declared.place.Place.{Place}
use Rattle.steal_core.specs.declared.place.Place.TheVariants.{Hand, Deque, Ended}
use Rattle.steal_core.specs.declared.place.Placed.{Placed}
use Rattle.steal_core.specs.declared.place.Event.{Event}
use Rattle.steal_core.specs.declared.place.Event.TheVariants.{Push, Hold, Pop, Steal, Drain, Finish}
use Rattle.steal_core.specs.Core.{Core, placed, begin, AllEnded, IsEnded, ended_times, Halves, Moves, Steps, Reached}
use Rattle.steal_core.specs.Core.{at_start, stepped, refused, weigh, weigh_ended, if_ended, one, IsGood}

-- a box in a hand ends, and its two halves are added
record Grows (p : ℕ) (old new : Core) : Type 0 where
  pub there : (h : ℕ → ℕ) → h p ≤ weigh h old.boxes
  pub ended : (h : ℕ → ℕ) → weigh_ended h new.boxes ≡ weigh_ended h old.boxes + h p
  pub apart : (h : ℕ → ℕ) → weigh_ended h old.boxes + h p ≤ weigh h old.boxes
  pub comes : (h : ℕ → ℕ) → weigh h new.boxes ≡ weigh h old.boxes + h (2 * p) + h (2 * p + 1)

-- a box goes from one place to another, or ends
record Stays (old new : Core) : Type 0 where
  pub same : (h : ℕ → ℕ) → weigh h new.boxes ≡ weigh h old.boxes
  pub ended : (h : ℕ → ℕ) → weigh_ended h old.boxes ≤ weigh_ended h new.boxes

weigh_append : (h : ℕ → ℕ) (xs ys : List Placed) → weigh h (xs ++ ys) ≡ weigh h xs + weigh h ys
weigh_append h [] ys = omega arith
weigh_append h (x ∷ xs) ys = omega (arith, weigh_append h xs ys)

ended_append : (h : ℕ → ℕ) (xs ys : List Placed) → weigh_ended h (xs ++ ys) ≡ weigh_ended h xs + weigh_ended h ys
ended_append h [] ys = omega arith
ended_append h (x ∷ xs) ys = omega (arith, ended_append h xs ys)

ended_least : (h : ℕ → ℕ) (xs : List Placed) → weigh_ended h xs ≤ weigh h xs
ended_least h [] = omega arith
ended_least h (x ∷ xs) = omega (arith, ended_least h xs, at x.place) where
  at : (p : Place) → if_ended p (h x.path) ≤ h x.path
  at (Hand i) = omega arith
  at (Deque i) = omega arith
  at Ended = omega arith

one_same : (x y : ℕ) → y ≡ x → one x y ≡ 1
one_same x y e = elim (eqb_tells y x) [ inl h ↦ rw h.0 refl | inr h ↦ absurd (h.1 e) ]

one_other : (x y : ℕ) → y ≢ x → one x y ≡ 0
one_other x y n = elim (eqb_tells y x) [ inl h ↦ absurd (n h.1) | inr h ↦ rw h.0 refl ]

zero_or : (n : ℕ) → (n ≡ 0) ⊎ (0 < n)
zero_or zero = inl refl
zero_or (suc n) = inr (omega arith)

-- a half of a box in hand is not there yet
fresh : (p x : ℕ) (old new : Core) → IsGood old → Grows p old new → x / 2 ≡ p → 1 < x → weigh (one x) old.boxes ≡ 0
fresh p x old new good move half big = elim (zero_or (weigh (one x) old.boxes)) [
  | inl none ↦ none
  | inr some ↦ let ended : 0 < weigh_ended (one p) old.boxes =
      subst (λ q. 0 < weigh_ended (one q) old.boxes) half (good.parents x big some) in
      absurd (omega (arith, good.once p, move.apart (one p), one_same p p refl))
]

positive_path : (p : ℕ) (old new : Core) → IsGood old → Grows p old new → 0 < p
positive_path zero old new good move = absurd (omega (arith, good.positive, move.there (one 0), one_same 0 0 refl))
positive_path (suc p) old new good move = omega arith

stays_good : (old new : Core) → IsGood old → Stays old new → IsGood new
stays_good old new good move = record {
  once = λ x. omega (arith, good.once x, move.same (one x));
  positive = omega (arith, good.positive, move.same (one 0));
  parents = λ x big some. omega (arith, good.parents x big (omega (arith, move.same (one x))), move.ended (one (x / 2)));
  siblings = λ p above. omega (arith, good.siblings p above, move.same (one (2 * p)), move.same (one (2 * p + 1)));
}

grows_good : (p : ℕ) (old new : Core) → IsGood old → Grows p old new → IsGood new
grows_good p old new good move =
    let above : 0 < p = positive_path p old new good move in record {
      once = λ x. once x above;
      positive = omega (
        arith,
        good.positive,
        move.comes (one 0),
        one_other 0 (2 * p) (λ e. absurd (omega arith)),
        one_other 0 (2 * p + 1) (λ e. absurd (omega arith)),
      );
      parents = λ x big some. parents x above big some;
      siblings = λ q positive. siblings q above positive;
    }
  where
    once : (x : ℕ) → 0 < p → weigh (one x) new.boxes ≤ 1
    once x above = elim (eqb_tells (2 * p) x) [
      | inl l ↦ omega (
        arith,
        move.comes (one x),
        one_same x (2 * p) l.1,
        one_other x (2 * p + 1) (λ e. absurd (omega (arith, l.1))),
        fresh p x old new good move (omega (arith, l.1)) (omega (arith, l.1)),
      )
      | inr l ↦ elim (eqb_tells (2 * p + 1) x) [
        | inl r ↦ omega (
          arith,
          move.comes (one x),
          one_other x (2 * p) l.1,
          one_same x (2 * p + 1) r.1,
          fresh p x old new good move (omega (arith, r.1)) (omega (arith, r.1)),
        )
        | inr r ↦ omega (arith, move.comes (one x), one_other x (2 * p) l.1, one_other x (2 * p + 1) r.1, good.once x)
      ]
    ]

    here : (x : ℕ) → x / 2 ≡ p → 0 < weigh_ended (one (x / 2)) new.boxes
    here x half = subst (λ q. 0 < weigh_ended (one q) new.boxes) (sym half) (omega (arith, move.ended (one p), one_same p p refl))

    parents : (x : ℕ) → 0 < p → 1 < x → 0 < weigh (one x) new.boxes → 0 < weigh_ended (one (x / 2)) new.boxes
    parents x above big some = elim (eqb_tells (2 * p) x) [
      | inl l ↦ here x (omega (arith, l.1))
      | inr l ↦ elim (eqb_tells (2 * p + 1) x) [
        | inl r ↦ here x (omega (arith, r.1))
        | inr r ↦ omega (
          arith,
          good.parents x big
              (omega (arith, some, move.comes (one x), one_other x (2 * p) l.1, one_other x (2 * p + 1) r.1)),
          move.ended (one (x / 2)),
        )
      ]
    ]

    siblings : (q : ℕ) → 0 < p → 0 < q → weigh (one (2 * q)) new.boxes ≡ weigh (one (2 * q + 1)) new.boxes
    siblings q above positive = elim (eqb_tells p q) [
      | inl e ↦ omega (
        arith,
        good.siblings q positive,
        move.comes (one (2 * q)),
        move.comes (one (2 * q + 1)),
        one_same (2 * q) (2 * p) (omega (arith, e.1)),
        one_other (2 * q) (2 * p + 1) (λ x. absurd (omega arith)),
        one_other (2 * q + 1) (2 * p) (λ x. absurd (omega arith)),
        one_same (2 * q + 1) (2 * p + 1) (omega (arith, e.1)),
      )
      | inr n ↦ omega (
        arith,
        good.siblings q positive,
        move.comes (one (2 * q)),
        move.comes (one (2 * q + 1)),
        one_other (2 * q) (2 * p) (λ x. n.1 (omega arith)),
        one_other (2 * q) (2 * p + 1) (λ x. absurd (omega arith)),
        one_other (2 * q + 1) (2 * p) (λ x. absurd (omega arith)),
        one_other (2 * q + 1) (2 * p + 1) (λ x. n.1 (omega arith)),
      )
    ]

-- a box not yet ended changes its place
moves : (from to : Place) (path : ℕ) (front back : List Placed) (old new : Core) → ((n : ℕ) → if_ended from n ≡ 0) →
    Moves from to path front back old new → Stays old new
moves from to path front back old new free m =
    let before = m.old_boxes in
    let after : new.boxes ≡ front ++ placed to path ∷ back = ap (λ (c : Core). c.boxes) m.is_new in record {
      same = λ h. rw (before, after) (omega (arith, weigh_append h front (placed from path ∷ back), weigh_append h front (placed to path ∷ back)));
      ended = λ h. rw (before, after) (omega (
        arith,
        free (h path),
        ended_append h front (placed from path ∷ back),
        ended_append h front (placed to path ∷ back),
      ));
    }

halves : (by path : ℕ) (right : Place) (old new : Core) → ((n : ℕ) → if_ended right n ≡ 0) → Halves by path right old new → Grows path old new
halves by path right old new free m =
    let before = m.old_boxes in
    let two : List Placed = placed (Hand by) (2 * path) ∷ placed right (2 * path + 1) ∷ [] in
    let middle : List Placed = m.front ++ placed Ended path ∷ m.back in
    let after : new.boxes ≡ middle ++ two = ap (λ (c : Core). c.boxes) m.is_new in record {
      there = λ h. rw before (omega (arith, weigh_append h m.front (placed (Hand by) path ∷ m.back)));
      ended = λ h. rw (before, after) (omega (
        arith,
        free (h (2 * path + 1)),
        ended_append h middle two,
        ended_append h m.front (placed (Hand by) path ∷ m.back),
        ended_append h m.front (placed Ended path ∷ m.back),
      ));
      apart = λ h. rw before (omega (
        arith,
        ended_append h m.front (placed (Hand by) path ∷ m.back),
        weigh_append h m.front (placed (Hand by) path ∷ m.back),
        ended_least h m.front,
        ended_least h m.back,
      ));
      comes = λ h. rw (before, after) (omega (
        arith,
        weigh_append h middle two,
        weigh_append h m.front (placed (Hand by) path ∷ m.back),
        weigh_append h m.front (placed Ended path ∷ m.back),
      ));
    }

steps_good : (e : Event) (old new : Core) → IsGood old → Steps e old new → IsGood new
steps_good (Push by path) old new good s = grows_good path old new good (halves by path (Deque by) old new (λ n. refl) s.1)
steps_good (Hold by path) old new good s = grows_good path old new good (halves by path (Hand by) old new (λ n. refl) s.1)
steps_good (Pop by) old new good s = stays_good old new good (moves (Deque by) (Hand by) s.1 s.2 s.3 old new (λ n. refl) s.4)
steps_good (Steal by from) old new good s = stays_good old new good (moves (Deque from) (Hand by) s.2 s.3 s.4 old new (λ n. refl) s.5)
steps_good (Drain from) old new good s = stays_good old new good (moves (Deque from) (Hand old.workers) s.1 s.2 s.3 old new (λ n. refl) s.4)
steps_good (Finish by path) old new good s = stays_good old new good (moves (Hand by) Ended path s.1 s.2 old new (λ n. refl) s.3)

begins_good : (workers room : ℕ) → IsGood (begin workers room)
begins_good workers room = record {
  once = λ x. elim (eqb_tells 1 x) [ inl h ↦ omega (arith, one_same x 1 h.1) | inr h ↦ omega (arith, one_other x 1 h.1) ];
  positive = refl;
  parents = λ x big some. absurd (omega (arith, some, one_other x 1 (λ e. absurd (omega arith))));
  siblings = λ p above. omega (arith, one_other (2 * p) 1 (λ e. absurd (omega arith)), one_other (2 * p + 1) 1 (λ e. absurd (omega arith)));
}

-- every state that is reached is good
pub all_good : (workers room : ℕ) (es : List Event) (s : Core) → Reached workers room es s → IsGood s
all_good workers room es s at_start = begins_good workers room
all_good workers room es s (stepped before e old new r step) = steps_good e old new (all_good workers room before old r) step
all_good workers room es s (refused before e old r none) = all_good workers room before old r

ended_is_all : (h : ℕ → ℕ) (xs : List Placed) → AllEnded xs → weigh_ended h xs ≡ weigh h xs
ended_is_all h [] a = refl
ended_is_all h (x ∷ xs) a = omega (arith, at x.place a.0, ended_is_all h xs a.1) where
  at : (p : Place) → IsEnded p → if_ended p (h x.path) ≡ h x.path
  at (Hand i) e = absurd e
  at (Deque i) e = absurd e
  at Ended e = refl

-- once all boxes have ended, a left half has ended as often as its sibling
pub ended_pairs : (workers room : ℕ) (es : List Event) (s : Core) → Reached workers room es s → AllEnded s.boxes →
    (p : ℕ) → 0 < p → ended_times (2 * p) s.boxes ≡ ended_times (2 * p + 1) s.boxes
ended_pairs workers room es s r a p above = ended_is_all (one (2 * p)) s.boxes a
    ∙ (all_good workers room es s r).siblings p above ∙ sym (ended_is_all (one (2 * p + 1)) s.boxes a)
