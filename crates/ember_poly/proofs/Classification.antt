-- How corners lie relative to a plane, from runs of them, and where its negative side is entered.
use Rattle.std.proofs.Common.{◌≡◌, ◌⊎◌, ⊎_elim, inl, inr, refl, sym, ap, subst, ◌∙◌, arith, ℕ, zero, suc, ◌<◌, ◌≤◌, ◌+◌}
use Rattle.std.proofs.Common.{◌-◌, Bool, true, false, not, List, [], ◌∷◌, ◌++◌, length, take, drop, length-drop, ℤ, pos}
use Rattle.std.proofs.Common.{◌<ℤ◌, ◌≤ℤ◌}
use lib.ListN.{get_or}
use Rattle.std.specs.List.{AllByRecursion}
use Rattle.std.proofs.lemmas.List.{take-append-drop, drop-drop, take_more, drop_more, take_all, drop_all}
use Rattle.ember_algebra.specs.Sign.{is_positive}
use Rattle.ember_algebra.proofs.Laws.{linear}
use Rattle.ember_model.specs.declared.point.Spot.{Spot}
use Rattle.ember_model.specs.declared.plane.Plane.{Plane}
use Rattle.ember_model.specs.Planes.{value_at}
use Rattle.ember_model.proofs.SignTests.{negative_in, negative_not, positive_out, not_positive_out}
use Rattle.ember_poly.specs.declared.reach_and_cut.Reach.{Reach}
use Rattle.ember_poly.specs.declared.reach_and_cut.Reach.TheVariants.{Both}
use Rattle.ember_poly.specs.Rings.{IsBelow, IsAbove, IsOnPlane, IsNotAbove, IsNotBelow}
use Rattle.ember_poly.specs.Passages.{HasMember, AreSigns, AreClassified, is_under, Stops, IsOneSidedRun, AreNotBelow}
use Rattle.ember_poly.specs.Passages.{IsRunNotBelow, Enters, Straddles, EntersAt}
use Rattle.ember_poly.proofs.Chains.{each-push, each_both}
use Rattle.ember_poly.proofs.Rotations.{each-join}
use Rattle.ember_poly.proofs.Members.{has-push, has-front, has-back, has_pick}
use Rattle.ember_poly.proofs.Runs.{true_is_not_false, under_out, stops_at, stops_end, rest_of, lows, highs, run_rest}
use Rattle.ember_poly.proofs.Runs.{run_more, run_short, run_long, up_positive, entry_within, entry_enters}

module _ {M : Type 0} (spot : M → Spot) where
  -- ---- signs
  -- corners that are neither above nor below a plane are on it
  pub on_both : (p : Plane) (ms : List M) → AllByRecursion (λ m. IsNotAbove p (spot m)) ms →
      AllByRecursion (λ m. IsNotBelow p (spot m)) ms → AllByRecursion (λ m. IsOnPlane p (spot m)) ms
  on_both p ms h k =
      each_both (λ m. IsNotAbove p (spot m)) (λ m. IsNotBelow p (spot m)) (λ m. IsOnPlane p (spot m)) ms
      (λ m a b. record { on_plane = squeeze a.at_most b.at_least }) h k
    where
      squeeze : {a : ℤ} → a ≤ℤ pos 0 → pos 0 ≤ℤ a → a ≡ pos 0
      squeeze p q = omega (arith, linear, p, q)

  straddles_both : (p : Plane) (ms : List M) → AreSigns spot p ms Both → Straddles spot p ms
  straddles_both p ms s =
      record {
        above = λ h. let f = has_pick (λ m. IsAbove p (spot m)) (λ m. IsNotAbove p (spot m)) ms s.1 h in never f.also.at_most f.holds.over;
        under = λ h. let f = has_pick (λ m. IsBelow p (spot m)) (λ m. IsNotBelow p (spot m)) ms s.0 h in never f.also.at_least f.holds.under;
      }
    where
      never : {a b : ℤ} → a ≤ℤ b → b <ℤ a → ⊥
      never p q = absurd (omega (arith, linear, p, q))

  -- corners with the reach Both lie on both sides of the plane
  pub straddles_by : (p : Plane) (ms : List M) (r : Reach) → AreSigns spot p ms r → r ≡ Both → Straddles spot p ms
  straddles_by p ms r s e = straddles_both p ms (subst (λ t. AreSigns spot p ms t) e s)

  -- ---- a rise, corner by corner
  whole : (ms : List M) (i : ℕ) → length ms ≤ i → take i ms ≡ take (length ms) ms
  whole ms i l = take_all i ms l ∙ sym (take_all (length ms) ms (omega arith))

  has-drop : {X : Type 0} (P : X → Type 0) (k : ℕ) (xs : List X) → HasMember P (drop k xs) → HasMember P xs
  has-drop P k xs h = subst (λ ys. HasMember P ys) (take-append-drop k xs) (has-back P (take k xs) (drop k xs) h)

  module _ (p : Plane) where
    abbrev Raised : M → Type 0
    Raised m = IsAbove p (spot m)

    abbrev Level : M → Type 0
    Level m = IsNotAbove p (spot m)

    risen_none : AreNotBelow spot p false []
    risen_none = record { all = tt; some = λ e. true_is_not_false e refl; none = λ e. tt }

    pub risen_zero : (high : Bool) (ms : List M) (m : M) → value_at p (spot m) ≡ pos 0 → AreNotBelow spot p high ms → AreNotBelow spot p high (ms ++ m ∷ [])
    risen_zero high ms m z r =
        record {
          all = each-push (λ m. is_under spot p m ≡ false) ms m r.all (negative_not (value_at p (spot m)) (least z));
          some = λ e. has-front Raised ms (m ∷ []) (r.some e);
          none = λ e. each-push Level ms m (r.none e) (record { at_most = most z });
        }
      where
        least : {a : ℤ} → a ≡ pos 0 → pos 0 ≤ℤ a
        least p = omega (arith, linear, p)

        most : {a : ℤ} → a ≡ pos 0 → a ≤ℤ pos 0
        most p = omega (arith, linear, p)

    pub risen_over : (high : Bool) (ms : List M) (m : M) → pos 0 <ℤ value_at p (spot m) → AreNotBelow spot p high ms → AreNotBelow spot p true (ms ++ m ∷ [])
    risen_over high ms m l r =
        record {
          all = each-push (λ m. is_under spot p m ≡ false) ms m r.all (negative_not (value_at p (spot m)) (least l));
          some = λ e. has-push Raised ms m (record { over = l });
          none = λ e. true_is_not_false refl e;
        }
      where
        least : {a : ℤ} → pos 0 <ℤ a → pos 0 ≤ℤ a
        least p = omega (arith, linear, p)

    pub risen_next : (high : Bool) (ms : List M) (i : ℕ) (m : M) → i < length ms → m ≡ get_or ms i m →
        AreNotBelow spot p high (take i ms ++ m ∷ []) → AreNotBelow spot p high (take (i + 1) ms)
    risen_next high ms i m l e r =
        subst (λ ns. AreNotBelow spot p high ns) (sym (take_more ms i m l ∙ ap (λ n. take i ms ++ n ∷ []) (sym e))) r

    pub rise_stops : (high : Bool) (ms : List M) (i : ℕ) (m : M) → i < length ms → m ≡ get_or ms i m →
        value_at p (spot m) <ℤ pos 0 → AreNotBelow spot p high (take i ms) → IsRunNotBelow spot p ms i high
    rise_stops high ms i m l e v r =
        record {
          run = record {
            at_most_all = omega (arith, l);
            all = r.all;
            stops =
                stops_at spot p false ms i m l (subst (λ n. is_under spot p n ≡ true) e (negative_in v));
          };
          risen = r;
        }

    pub rise_ends : (high : Bool) (ms : List M) (i : ℕ) → length ms ≤ i → AreNotBelow spot p high (take i ms) → IsRunNotBelow spot p ms (length ms) high
    rise_ends high ms i l r =
        let q = subst (λ ns. AreNotBelow spot p high ns) (whole ms i l) r in
        record { run = record { at_most_all = omega arith; all = q.all; stops = stops_end spot p false ms (length ms) (omega arith) }; risen = q }

    -- ---- a run, corner by corner
    abbrev Lower : M → Type 0
    Lower m = is_under spot p m ≡ true

    pub run_next : (ms : List M) (i : ℕ) (m : M) → i < length ms → m ≡ get_or ms i m →
        value_at p (spot m) <ℤ pos 0 → AllByRecursion Lower (take i ms) → AllByRecursion Lower (take (i + 1) ms)
    run_next ms i m l e v h =
        subst (λ ns. AllByRecursion Lower ns) (sym (take_more ms i m l ∙ ap (λ n. take i ms ++ n ∷ []) (sym e)))
        (each-push Lower (take i ms) m h (negative_in v))

    -- a run of corners below a plane ends at a corner that isn't
    pub run_stops : (ms : List M) (i : ℕ) (m : M) → i < length ms → m ≡ get_or ms i m →
        pos 0 ≤ℤ value_at p (spot m) → AllByRecursion Lower (take i ms) → IsOneSidedRun spot p true ms i
    run_stops ms i m l e v h =
        record {
          at_most_all = omega (arith, l);
          all = h;
          stops =
              stops_at spot p true ms i m l (subst (λ n. is_under spot p n ≡ false) e (negative_not (value_at p (spot m)) v));
        }

    pub run_ends : (ms : List M) (i : ℕ) → length ms ≤ i → AllByRecursion Lower (take i ms) → IsOneSidedRun spot p true ms (length ms)
    run_ends ms i l h =
        record {
          at_most_all = omega arith;
          all = subst (λ ns. AllByRecursion Lower ns) (whole ms i l) h;
          stops = stops_end spot p true ms (length ms) (omega arith);
        }

    -- the corner behind a run
    next_is : (high : Bool) (ms : List M) (i : ℕ) (m : M) → i < length ms → m ≡ get_or ms i m →
        AreNotBelow spot p high (m ∷ []) → AreNotBelow spot p high (take 1 (drop i ms))
    next_is high ms i m l e r =
        subst (λ ns. AreNotBelow spot p high ns) (sym (ap (λ ns. take 1 ns) (drop_more ms i m l) ∙ ap (λ n. n ∷ []) (sym e))) r

    pub next_zero : (ms : List M) (i : ℕ) (m : M) → i < length ms → m ≡ get_or ms i m →
        value_at p (spot m) ≡ pos 0 → AreNotBelow spot p false (take 1 (drop i ms))
    next_zero ms i m l e v = next_is false ms i m l e (risen_zero false [] m v risen_none)

    pub next_over : (ms : List M) (i : ℕ) (m : M) → i < length ms → m ≡ get_or ms i m →
        pos 0 <ℤ value_at p (spot m) → AreNotBelow spot p true (take 1 (drop i ms))
    next_over ms i m l e v = next_is true ms i m l e (risen_over false [] m v risen_none)

    pub next_none : (ms : List M) → AreNotBelow spot p false (take 1 (drop (length ms) ms))
    next_none ms =
        subst (λ ns. AreNotBelow spot p false (take 1 ns)) (sym (drop_all (length ms) ms (omega arith))) risen_none

    -- in the list as code has it
    pub next_first : (high : Bool) (ms : List M) (d : ℕ) → AreNotBelow spot p high (take 1 (drop d ms)) →
        AreNotBelow spot p high (take 1 (take (length ms - d) (drop d ms)))
    next_first high ms d r = subst (λ ns. AreNotBelow spot p high (take 1 ns)) (sym (rest_of d ms)) r

    -- the corner behind a rise
    pub known_low : (ms : List M) (d u : ℕ) (high : Bool) → IsRunNotBelow spot p (take (length ms - d) (drop d ms)) u high →
        AllByRecursion Lower (take 1 (take (length ms - (d + u)) (drop (d + u) ms)))
    known_low ms d u high r =
        subst (λ ns. AllByRecursion Lower (take 1 ns))
        (ap (λ ns. drop u ns) (rest_of d ms) ∙ drop-drop u d ms ∙ sym (rest_of (d + u) ms))
        (by (drop u (take (length ms - d) (drop d ms))) r.run.stops)
      where
        by : (ns : List M) → Stops spot p false ns → AllByRecursion (λ m. is_under spot p m ≡ true) (take 1 ns)
        by [] s = tt
        by (n ∷ ns) s = (s, tt)

    pub some_raised : (ms : List M) (i : ℕ) (m : M) → i < length ms → m ≡ get_or ms i m → is_positive (value_at p (spot m)) ≡ true → HasMember Raised ms
    some_raised ms i m l e v =
        has-drop Raised i ms (subst (λ ns. HasMember Raised ns) (sym (drop_more ms i m l))
        (inl (subst Raised e (record { over = positive_out (value_at p (spot m)) v }))))

    pub level_next : (ms : List M) (i : ℕ) (m : M) → i < length ms → m ≡ get_or ms i m →
        is_positive (value_at p (spot m)) ≡ false → AllByRecursion Level (take i ms) →
        AllByRecursion Level (take (i + 1) ms)
    level_next ms i m l e v h =
        subst (λ ns. AllByRecursion Level ns) (sym (take_more ms i m l ∙ ap (λ n. take i ms ++ n ∷ []) (sym e)))
        (each-push Level (take i ms) m h (record { at_most = not_positive_out (value_at p (spot m)) (ap not v) }))

  -- ---- all corners
  has_run : (p : Plane) (ms : List M) (k : ℕ) → IsOneSidedRun spot p true ms k → 0 < k → HasMember (λ m. IsBelow p (spot m)) ms
  has_run p ms zero r l = absurd (omega (arith, l))
  has_run p [] (suc k) r l = absurd (omega (arith, r.at_most_all))
  has_run p (m ∷ ms) (suc k) r l = inl (under_out spot p m r.all.0)

  -- a run within the first ones
  run_front : (p : Plane) (b : Bool) (ms : List M) (k f : ℕ) → k ≤ f → IsOneSidedRun spot p b ms k → IsOneSidedRun spot p b (take f ms) k
  run_front p b ms zero zero l r = record { at_most_all = omega arith; all = tt; stops = tt }
  run_front p b [] zero (suc f) l r = record { at_most_all = omega arith; all = tt; stops = tt }
  run_front p b (m ∷ ms) zero (suc f) l r = record { at_most_all = omega arith; all = tt; stops = r.stops }
  run_front p b ms (suc k) zero l r = absurd (omega (arith, l))
  run_front p b [] (suc k) (suc f) l r = absurd (omega (arith, r.at_most_all))
  run_front p b (m ∷ ms) (suc k) (suc f) l r =
      run_more spot p b m (take f ms) k r.all.0 (run_front p b ms k f (omega (arith, l)) (run_rest spot p b m ms k r))

  module _ (p : Plane) (ms : List M) (d u c : ℕ) (some high : Bool) (down : IsOneSidedRun spot p true ms d)
      (up' : IsRunNotBelow spot p (take (length ms - d) (drop d ms)) u some)
      (back' : IsOneSidedRun spot p true (take (length ms - (d + u)) (drop (d + u) ms)) c) (over' : high ≡ true →
      (some ≡ true) ⊎ HasMember (λ m. IsAbove p (spot m)) (take (length ms - (d + u + c)) (drop (d + u + c) ms)))
      (most' : high ≡ false → (some ≡ false) × AllByRecursion (λ m. IsNotAbove p (spot m))
      (take (length ms - (d + u + c)) (drop (d + u + c) ms))) where
    up : IsRunNotBelow spot p (drop d ms) u some
    up = subst (λ ns. IsRunNotBelow spot p ns u some) (rest_of d ms) up'

    back : IsOneSidedRun spot p true (drop (d + u) ms) c
    back = subst (λ ns. IsOneSidedRun spot p true ns c) (rest_of (d + u) ms) back'

    over : high ≡ true → (some ≡ true) ⊎ HasMember (λ m. IsAbove p (spot m)) (drop (d + u + c) ms)
    over =
        subst (λ ns. high ≡ true → (some ≡ true) ⊎ HasMember (λ m. IsAbove p (spot m)) ns) (rest_of (d + u + c) ms) over'

    most : high ≡ false → (some ≡ false) × AllByRecursion (λ m. IsNotAbove p (spot m)) (drop (d + u + c) ms)
    most =
        subst (λ ns. high ≡ false → (some ≡ false) × AllByRecursion (λ m. IsNotAbove p (spot m)) ns) (rest_of (d + u + c) ms) most'

    abbrev Low : M → Type 0
    Low m = IsNotAbove p (spot m)

    abbrev High : M → Type 0
    High m = IsNotBelow p (spot m)

    joined : (P : M → Type 0) (k : ℕ) (ns : List M) → AllByRecursion P (take k ns) → AllByRecursion P (drop k ns) → AllByRecursion P ns
    joined P k ns a b =
        subst (λ ys. AllByRecursion P ys) (take-append-drop k ns) (each-join P (take k ns) (drop k ns) a b)

    behind : drop u (drop d ms) ≡ drop (d + u) ms
    behind = drop-drop u d ms

    ended : (ns : List M) → Stops spot p false ns → Stops spot p true ns → AllByRecursion High ns
    ended [] s t = tt
    ended (n ∷ ns) s t = true_is_not_false s t

    none_under : d + c ≡ 0 → AllByRecursion High ms
    none_under e =
        let start : AllByRecursion High (take d ms) = subst (λ k. AllByRecursion High (take k ms)) (zero_left e) tt in
        let end : Stops spot p true (drop (d + u) ms) = subst (λ k. Stops spot p true (drop k (drop (d + u) ms))) (zero_right e) back.stops in
        joined High d ms start (joined High u (drop d ms) (highs spot p (take u (drop d ms)) up.run.all)
        (ended (drop u (drop d ms)) up.run.stops (subst (λ ns. Stops spot p true ns) (sym behind) end)))
      where
        zero_left : d + c ≡ 0 → 0 ≡ d
        zero_left e = omega (arith, e)

        zero_right : d + c ≡ 0 → c ≡ 0
        zero_right e = omega (arith, e)

    none_over : high ≡ false → AllByRecursion Low ms
    none_over e =
        let m = most e in
        let rest : AllByRecursion Low (drop c (drop (d + u) ms)) = subst (λ ns. AllByRecursion Low ns) (sym (drop-drop c (d + u) ms)) m.1 in
        let low : AllByRecursion Low (drop (d + u) ms) = joined Low c (drop (d + u) ms) (lows spot p (take c (drop (d + u) ms)) back.all) rest in
        joined Low d ms (lows spot p (take d ms) down.all) (joined Low u (drop d ms) (up.risen.none m.0) (subst (λ ns. AllByRecursion Low ns) (sym behind) low))

    some_under : 0 < d + c → HasMember (λ m. IsBelow p (spot m)) ms
    some_under l =
        ⊎_elim (λ k. has_run p ms d down k) (λ k. has-drop (λ m. IsBelow p (spot m)) (d + u) ms (has_run p (drop (d + u) ms) c back k)) (either d c l)
      where
        either : (d c : ℕ) → 0 < d + c → (0 < d) ⊎ (0 < c)
        either zero c l = inr (omega (arith, l))
        either (suc d) c l = inl (omega arith)

    some_over : high ≡ true → HasMember (λ m. IsAbove p (spot m)) ms
    some_over e =
        ⊎_elim (λ k. has-drop (λ m. IsAbove p (spot m)) d ms
        (subst (λ ns. HasMember (λ m. IsAbove p (spot m)) ns) (take-append-drop u (drop d ms))
        (has-front (λ m. IsAbove p (spot m)) (take u (drop d ms)) (drop u (drop d ms)) (up.risen.some k))))
        (λ h. has-drop (λ m. IsAbove p (spot m)) (d + u + c) ms h) (over e)

    -- one more corner has been classified
    pub corner_is_classified : AreClassified spot p (d + c) high ms
    corner_is_classified = record { under = some_under; least = none_under; over = some_over; most = none_over }

    module _ (t : Straddles spot p ms) (first : ℕ) (fe : first ≡ d + u - 1) where
      rises : 0 < u
      rises = up_positive spot p ms d u down up.run t

      next : first + 1 ≡ d + u
      next = omega (arith, fe, rises)

      within : first < length ms
      within = subst (λ k. k < length ms) (sym fe) (entry_within spot p ms d u down up.run t)

      enters : Enters spot p (drop first ms ++ take first ms)
      enters =
          subst (λ k. Enters spot p (drop k ms ++ take k ms)) (sym fe) (entry_enters spot p ms d u down up.run t)

      kept : IsOneSidedRun spot p true (drop (first + 1) ms) c
      kept = subst (λ k. IsOneSidedRun spot p true (drop k ms) c) (sym next) back

      left : length (drop (first + 1) ms) ≡ length ms - (d + u)
      left = length-drop (first + 1) ms ∙ ap (λ k. length ms - k) next

      pub entry_short : d + u + c < length ms → EntersAt spot p ms first c
      entry_short l =
          record { within = within; enters = enters; run = run_short spot p true (drop (first + 1) ms) (take first ms) c (omega (arith, l, left)) kept }

      pub entry_long : length ms ≤ d + u + c → EntersAt spot p ms first (c + d)
      entry_long l =
          record {
            within = within;
            enters = enters;
            run =
                run_long spot p true (drop (first + 1) ms) (take first ms) c d (omega (arith, l, left)) kept
                (run_front p true ms d first (omega (arith, next, rises)) down);
          }
