-- The last rule of journals follows from the others: a list of steps is found along the tree.
use Rattle.std.proofs.Common.{◌≡◌, ◌≢◌, ◌⊎◌, ℕ, zero, suc, ◌+◌, ◌*◌, ◌<◌, ◌≤◌, List, [], ◌∷◌, ◌++◌, false, refl, sym}
use Rattle.std.proofs.Common.{ap, ap₂, ◌∙◌, subst, append_assoc, inl, inr, arith}
use Rattle.std.proofs.lemmas.Bool.Decides.{eqb_tells}
use Rattle.std.proofs.lemmas.List.{append-nil}
use Rattle.steal_core.specs.declared.place.Place.{Place}
use Rattle.steal_core.specs.declared.place.Place.TheVariants.{Hand, Deque, Ended}
use Rattle.steal_core.specs.declared.place.Placed.{Placed}
use Rattle.steal_core.specs.declared.place.Event.{Event}
use Rattle.steal_core.specs.declared.place.Event.TheVariants.{Push, Hold, Pop, Steal, Drain, Finish}
use Rattle.steal_core.specs.Core.{Core, core, placed, in_deque, is_queued, HasNone, IsEnded, AllEnded}
use Rattle.steal_core.specs.Runs.{Run, none, then, Tree, rests, halved, Rules, keep, halved_in, others_in, halved_by, finished_by, IsRun}

-- no box is in a deque
abbrev IsOut : Place → Type 0
IsOut (Hand i) = Unit {0}
IsOut (Deque i) = ⊥
IsOut Ended = Unit {0}

abbrev AllOut : List Placed → Type 0
AllOut [] = Unit {0}
AllOut (s ∷ ss) = IsOut s.place × AllOut ss

out_append : (xs ys : List Placed) → AllOut xs → AllOut ys → AllOut (xs ++ ys)
out_append [] ys a b = b
out_append (x ∷ xs) ys a b = (a.0, out_append xs ys a.1 b)

none_out : (k : ℕ) (xs : List Placed) → AllOut xs → HasNone (is_queued k) xs
none_out k [] a = tt
none_out k (x ∷ xs) a = (at x.place a.0, none_out k xs a.1) where
  at : (p : Place) → IsOut p → in_deque k p ≡ false
  at (Hand i) o = refl
  at (Deque i) o = absurd o
  at Ended o = refl

ended_append : (xs ys : List Placed) → AllEnded xs → AllEnded ys → AllEnded (xs ++ ys)
ended_append [] ys a b = b
ended_append (x ∷ xs) ys a b = (a.0, ended_append xs ys a.1 b)

ended_out : (xs : List Placed) → AllEnded xs → AllOut xs
ended_out [] a = tt
ended_out (x ∷ xs) a = (at x.place a.0, ended_out xs a.1) where
  at : (p : Place) → IsEnded p → IsOut p
  at (Hand i) o = tt
  at (Deque i) o = absurd o
  at Ended o = tt

-- two lists of steps, one after the other
joined : (es fs : List Event) (a b c : Core) → Run a es b → Run b fs c → Run a (es ++ fs) c
joined es fs a b c (none d) s = s
joined es fs a b c (then e rest d m o step r) s = then e (rest ++ fs) d m c step (joined rest fs m o c r s)

keep_append : (k i p : ℕ) (xs ys zs : List ℕ) → zs ≡ xs ++ ys → keep k i p zs ≡ keep k i p xs ++ ys
keep_append k i p xs ys zs e = elim (eqb_tells i k) [
  | inl h ↦ rw h.0 (ap (λ r. p ∷ r) e)
  | inr h ↦ rw h.0 e
]

halved_append : (k : ℕ) (es fs : List Event) → halved_by k (es ++ fs) ≡ halved_by k es ++ halved_by k fs
halved_append k [] fs = refl
halved_append k (Push by path ∷ es) fs = keep_append k by path (halved_by k es) (halved_by k fs) (halved_by k (es ++ fs)) (halved_append k es fs)
halved_append k (Hold by path ∷ es) fs = keep_append k by path (halved_by k es) (halved_by k fs) (halved_by k (es ++ fs)) (halved_append k es fs)
halved_append k (Pop by ∷ es) fs = halved_append k es fs
halved_append k (Steal by from ∷ es) fs = halved_append k es fs
halved_append k (Drain from ∷ es) fs = halved_append k es fs
halved_append k (Finish by path ∷ es) fs = halved_append k es fs

finished_append : (k : ℕ) (es fs : List Event) → finished_by k (es ++ fs) ≡ finished_by k es ++ finished_by k fs
finished_append k [] fs = refl
finished_append k (Push by path ∷ es) fs = finished_append k es fs
finished_append k (Hold by path ∷ es) fs = finished_append k es fs
finished_append k (Pop by ∷ es) fs = finished_append k es fs
finished_append k (Steal by from ∷ es) fs = finished_append k es fs
finished_append k (Drain from ∷ es) fs = finished_append k es fs
finished_append k (Finish by path ∷ es) fs = keep_append k by path (finished_by k es) (finished_by k fs) (finished_by k (es ++ fs)) (finished_append k es fs)

-- all that ended below a box
abbrev below : Tree → ℕ → List Placed
below rests p = []
below (halved l r) p = placed Ended (2 * p) ∷ placed Ended (2 * p + 1) ∷ below l (2 * p) ++ below r (2 * p + 1)

below_ended : (t : Tree) (p : ℕ) → AllEnded (below t p)
below_ended rests p = tt
below_ended (halved l r) p = (tt, (tt, ended_append (below l (2 * p)) (below r (2 * p + 1)) (below_ended l (2 * p)) (below_ended r (2 * p + 1))))

record Ran (n room : ℕ) (owner : ℕ → ℕ) (t : Tree) (p : ℕ) (before after : List Placed) : Type 0 where
  pub events : List Event
  pub run : Run (core n room before) events (core n room after)
  pub halved : (k : ℕ) → halved_by k events ≡ halved_in k owner t p
  pub finished : (k : ℕ) → finished_by k events ≡ others_in k owner t p

-- the right half of a box gets to its worker: at once, or by a deque that holds nothing else
record Shares (n room : ℕ) (i j p : ℕ) (front back : List Placed) : Type 0 where
  pub events : List Event
  pub run : Run (core n room (front ++ placed (Hand i) p ∷ back)) events
      (core n room ((front ++ placed Ended p ∷ back) ++ placed (Hand i) (2 * p) ∷ placed (Hand j) (2 * p + 1) ∷ []))
  pub halved : (k : ℕ) → halved_by k events ≡ keep k i p []
  pub finished : (k : ℕ) → finished_by k events ≡ []

less_or : (i n : ℕ) → i ≤ n → i ≢ n → i < n
less_or i n le other = elim (two i n) [ inl h ↦ h | inr h ↦ absurd (other (omega (arith, h, le))) ] where
  two : (i n : ℕ) → (i < n) ⊎ (n ≤ i)
  two zero zero = inr (omega arith)
  two zero (suc n) = inl (omega arith)
  two (suc i) zero = inr (omega arith)
  two (suc i) (suc n) = elim (two i n) [ inl h ↦ inl (omega (arith, h)) | inr h ↦ inr (omega (arith, h)) ]

shares : (n room i j p : ℕ) (front back : List Placed) → i ≤ n → j ≤ n → (i ≡ n → j ≡ n) → AllOut front → AllOut back → Shares n room i j p front back
shares n room i j p front back few at caller out out' =
    let middle : List Placed = front ++ placed Ended p ∷ back in
    let pushed : List Placed = middle ++ placed (Hand i) (2 * p) ∷ placed (Deque i) (2 * p + 1) ∷ [] in
    let begun : Core = core n room (front ++ placed (Hand i) p ∷ back) in
    let both : Core = core n room (middle ++ placed (Hand i) (2 * p) ∷ placed (Hand j) (2 * p + 1) ∷ []) in
    let held : List Placed = middle ++ placed (Hand i) (2 * p) ∷ [] in
    let split : pushed ≡ held ++ placed (Deque i) (2 * p + 1) ∷ [] =
    sym (append_assoc middle (placed (Hand i) (2 * p) ∷ []) (placed (Deque i) (2 * p + 1) ∷ [])) in
    let moved : both ≡ core n room (held ++ placed (Hand j) (2 * p + 1) ∷ []) =
    ap (λ xs. core n room xs) (sym (append_assoc middle (placed (Hand i) (2 * p) ∷ [])
    (placed (Hand j) (2 * p + 1) ∷ []))) in
    let out_middle : AllOut middle = out_append front (placed Ended p ∷ back) out (tt, out') in
    elim (eqb_tells j i) [
      | inl same ↦ record {
        events = Hold i p ∷ [];
        run = then (Hold i p) [] begun both both (
          few,
          record {
            front = front;
            back = back;
            old_boxes = refl;
            is_new =
                ap (λ k. core n room (middle ++ placed (Hand i) (2 * p) ∷ placed (Hand k) (2 * p + 1) ∷ [])) same.1;
          },
        )
            (none both);
        halved = λ k. refl;
        finished = λ k. refl;
      }
      | inr other ↦
          let less : i < n = less_or i n few (λ e. other.1 (caller e ∙ sym e)) in
          elim (eqb_tells j n) [
            | inl last ↦ record {
              events = Push i p ∷ Drain i ∷ [];
              run = then (Push i p) (Drain i ∷ []) begun (core n room pushed) both (
                less,
                record { front = front; back = back; old_boxes = refl; is_new = refl },
              )
                  (then (Drain i) [] (core n room pushed) both both (
                    less,
                    2 * p + 1,
                    held,
                    [],
                    record {
                      old_boxes = split;
                      is_new =
                          moved ∙ ap (λ k. core n room (held ++ placed (Hand k) (2 * p + 1) ∷ [])) last.1;
                    },
                    tt,
                  ) (none both));
              halved = λ k. refl;
              finished = λ k. refl;
            }
            | inr worker ↦ record {
              events = Push i p ∷ Steal j i ∷ [];
              run = then (Push i p) (Steal j i ∷ []) begun (core n room pushed) both (
                less,
                record { front = front; back = back; old_boxes = refl; is_new = refl },
              )
                  (then (Steal j i) [] (core n room pushed) both both (
                    less_or j n at worker.1,
                    less,
                    2 * p + 1,
                    held,
                    [],
                    record { old_boxes = split; is_new = moved },
                    none_out i held (out_append middle (placed (Hand i) (2 * p) ∷ []) out_middle (tt, tt)),
                  )
                  (none both));
              halved = λ k. refl;
              finished = λ k. refl;
            }
          ]
    ]

owner_few : (n : ℕ) (owner : ℕ → ℕ) (t : Tree) (p : ℕ) → Rules n owner t p → owner p ≤ n
owner_few n owner rests p r = r
owner_few n owner (halved l r) p rules = rules.0

keep_nil : (k i p : ℕ) (xs : List ℕ) → keep k i p [] ++ xs ≡ keep k i p xs
keep_nil k i p xs = elim (eqb_tells i k) [ inl h ↦ rw h.0 refl | inr h ↦ rw h.0 refl ]

ran : (n room : ℕ) (owner : ℕ → ℕ) (t : Tree) (p : ℕ) (front back : List Placed) → Rules n owner t p → AllOut front →
    AllOut back → Ran n room owner t p (front ++ placed (Hand (owner p)) p ∷ back)
    (front ++ placed Ended p ∷ back ++ below t p)
ran n room owner rests p front back rules out out' =
    let before : Core = core n room (front ++ placed (Hand (owner p)) p ∷ back) in
    let after : Core = core n room (front ++ placed Ended p ∷ back ++ []) in record {
      events = Finish (owner p) p ∷ [];
      run = then (Finish (owner p) p) [] before after after (
        rules,
        front,
        back,
        record { old_boxes = refl; is_new = ap (λ xs. core n room xs) (append-nil (front ++ placed Ended p ∷ back)) },
      )
          (none after);
      halved = λ k. refl;
      finished = λ k. refl;
    }
ran n room owner (halved l r) p front back rules out out' =
    let i : ℕ = owner p in
    let j : ℕ = owner (2 * p + 1) in
    let same : owner (2 * p) ≡ i = rules.1 in
    let middle : List Placed = front ++ placed Ended p ∷ back in
    let out_middle : AllOut middle = out_append front (placed Ended p ∷ back) out (tt, out') in
    let first : Shares n room i j p front back = shares n room i j p front back rules.0 (owner_few n owner r (2 * p + 1) rules.4) rules.2 out out' in
    let left = ran n room owner l (2 * p) middle (placed (Hand j) (2 * p + 1) ∷ []) rules.3 out_middle (tt, tt) in
    let fore : List Placed = middle ++ placed Ended (2 * p) ∷ [] in
    let out_fore : AllOut fore = out_append middle (placed Ended (2 * p) ∷ []) out_middle (tt, tt) in
    let out_low : AllOut (below l (2 * p)) = ended_out (below l (2 * p)) (below_ended l (2 * p)) in
    let right = ran n room owner r (2 * p + 1) fore (below l (2 * p)) rules.4 out_fore out_low in
    let begun : Core = core n room (front ++ placed (Hand i) p ∷ back) in
    let both : Core = core n room (middle ++ placed (Hand i) (2 * p) ∷ placed (Hand j) (2 * p + 1) ∷ []) in
    let both' : Core = core n room (middle ++ placed (Hand (owner (2 * p))) (2 * p) ∷ placed (Hand j) (2 * p + 1) ∷ []) in
    let mid : Core = core n room ((middle ++ placed Ended (2 * p) ∷ placed (Hand j) (2 * p + 1) ∷ []) ++ below l (2 * p)) in
    let mid' : Core = core n room (fore ++ placed (Hand j) (2 * p + 1) ∷ below l (2 * p)) in
    let last : Core = core n room (fore ++ placed Ended (2 * p + 1) ∷ below l (2 * p) ++ below r (2 * p + 1)) in
    let last' : Core = core n room (front ++ placed Ended p ∷ back ++ below (halved l r) p) in
    let is_mid : mid' ≡ mid = ap (λ xs. core n room xs)
    (append_assoc middle (placed Ended (2 * p) ∷ []) (placed (Hand j) (2 * p + 1) ∷ below l (2 * p))
    ∙ sym (append_assoc middle (placed Ended (2 * p) ∷ placed (Hand j) (2 * p + 1) ∷ []) (below l (2 * p)))) in
    let is_last : last ≡ last' = ap (λ xs. core n room xs)
    (append_assoc fore (placed Ended (2 * p + 1) ∷ below l (2 * p)) (below r (2 * p + 1))
    ∙ append_assoc middle (placed Ended (2 * p) ∷ [])
    (placed Ended (2 * p + 1) ∷ below l (2 * p) ++ below r (2 * p + 1))) in
    let is_both : both' ≡ both = ap (λ k. core n room (middle ++ placed (Hand k) (2 * p) ∷ placed (Hand j) (2 * p + 1) ∷ [])) same in
    let run_left : Run both left.events mid = subst (λ c. Run c left.events mid) is_both left.run in
    let run_right : Run mid right.events last' =
    subst (λ c. Run c right.events last') is_mid (subst (λ c. Run mid' right.events c) is_last right.run) in record {
      events = first.events ++ (left.events ++ right.events);
      run = joined first.events (left.events ++ right.events) begun both last' first.run (joined left.events right.events both mid last' run_left run_right);
      halved = λ k. halved_append k first.events (left.events ++ right.events)
          ∙ ap₂ (λ xs ys. xs ++ ys) (first.halved k)
          (halved_append k left.events right.events ∙ ap₂ (λ xs ys. xs ++ ys) (left.halved k) (right.halved k))
          ∙ keep_nil k i p (halved_in k owner l (2 * p) ++ halved_in k owner r (2 * p + 1));
      finished = λ k. finished_append k first.events (left.events ++ right.events)
          ∙ ap₂ (λ xs ys. xs ++ ys) (first.finished k)
          (finished_append k left.events right.events ∙ ap₂ (λ xs ys. xs ++ ys) (left.finished k) (right.finished k));
    }

-- every tree of boxes with numbers that keep the rules is a run of the core
pub is_run : (n room : ℕ) (owner : ℕ → ℕ) (t : Tree) → owner 1 ≡ 0 → Rules n owner t 1 → IsRun n room owner t
is_run n room owner t root rules =
    let all = ran n room owner t 1 [] [] rules tt tt in record {
      events = all.events;
      last = placed Ended 1 ∷ below t 1;
      run = subst (λ k. Run (core n room (placed (Hand k) 1 ∷ [])) all.events (core n room (placed Ended 1 ∷ below t 1))) root all.run;
      ended = (tt, below_ended t 1);
      halved = all.halved;
      finished = all.finished;
    }
