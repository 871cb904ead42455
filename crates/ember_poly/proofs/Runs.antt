-- Runs of corners on one side of a plane, and the corner where the plane's negative side is entered.
use Rattle.std.proofs.Common.{◌≡◌, refl, sym, ap, subst, ◌∙◌, arith, ℕ, zero, suc, ◌<◌, ◌≤◌, ◌+◌, ◌-◌, Bool, true}
use Rattle.std.proofs.Common.{false, not, List, [], ◌∷◌, ◌++◌, length, take, drop, length-drop}
use Rattle.std.proofs.Common.{length-append}
use lib.ListN.{get_or}
use Rattle.std.proofs.lemmas.List.{drop_more, drop_all, take_all, take-append-drop, append_assoc, append-nil, length-take-le}
use Rattle.std.specs.List.{AllByRecursion}
use Rattle.ember_model.specs.declared.point.Spot.{Spot}
use Rattle.ember_model.specs.declared.plane.Plane.{Plane}
use Rattle.ember_model.specs.Planes.{value_at}
use Rattle.ember_model.proofs.SignTests.{negative_out, negative_not_out}
use Rattle.ember_poly.specs.Rings.{IsBelow, IsNotAbove, IsNotBelow}
use Rattle.ember_poly.specs.Passages.{is_under, Stops, IsOneSidedRun, Enters, Straddles}
use Rattle.ember_poly.proofs.Chains.{each_map, each-front, each-back}
use Rattle.ember_poly.proofs.InsidePoints.{below_is_not_above}
use Rattle.ember_poly.proofs.Rotations.{each-join}

module _ {M : Type 0} (spot : M → Spot) where
  -- ---- the test of one corner
  -- a corner that passes the test is below the plane
  pub under_out : (p : Plane) (m : M) → is_under spot p m ≡ true → IsBelow p (spot m)
  under_out p m e = record { under = negative_out (value_at p (spot m)) e }

  -- a corner that doesn't pass the test isn't below the plane
  pub least_out : (p : Plane) (m : M) → is_under spot p m ≡ false → IsNotBelow p (spot m)
  least_out p m e = record { at_least = negative_not_out (value_at p (spot m)) e }

-- no Boolean is both true and false
pub true_is_not_false : {X : Type 0} {b : Bool} → b ≡ true → b ≡ false → X
true_is_not_false p q = absurd (by (sym p ∙ q))
  where
    by : true ≡ false → ⊥
    by e = cc

module _ {M : Type 0} (spot : M → Spot) where
  -- ---- runs
  -- a run stops at a corner on the other side
  pub stops_at : (p : Plane) (b : Bool) (ms : List M) (i : ℕ) (d : M) → i < length ms → is_under spot p (get_or ms i d) ≡ not b → Stops spot p b (drop i ms)
  stops_at p b ms i d l e = subst (λ ys. Stops spot p b ys) (sym (drop_more ms i d l)) e

  -- behind the last corner a run ends
  pub stops_end : (p : Plane) (b : Bool) (ms : List M) (i : ℕ) → length ms ≤ i → Stops spot p b (drop i ms)
  stops_end p b ms i l = subst (λ ys. Stops spot p b ys) (sym (drop_all i ms l)) tt

  -- a run without its first corner
  pub run_rest : (p : Plane) (b : Bool) (m : M) (ms : List M) (k : ℕ) → IsOneSidedRun spot p b (m ∷ ms) (suc k) → IsOneSidedRun spot p b ms k
  run_rest p b m ms k r = record { at_most_all = omega (arith, r.at_most_all); all = r.all.1; stops = r.stops }

  -- a run with one corner more at its front
  pub run_more : (p : Plane) (b : Bool) (m : M) (ms : List M) (k : ℕ) → is_under spot p m ≡ b → IsOneSidedRun spot p b ms k →
      IsOneSidedRun spot p b (m ∷ ms) (suc k)
  run_more p b m ms k e r = record { at_most_all = omega (arith, r.at_most_all); all = (e, r.all); stops = r.stops }

  -- a run that ends before the list does
  pub run_short : (p : Plane) (b : Bool) (us bs : List M) (k : ℕ) → k < length us → IsOneSidedRun spot p b us k → IsOneSidedRun spot p b (us ++ bs) k
  run_short p b [] bs k l r = absurd (omega (arith, l))
  run_short p b (m ∷ us) bs zero l r = record { at_most_all = omega arith; all = tt; stops = r.stops }
  run_short p b (m ∷ us) bs (suc k) l r =
      run_more p b m (us ++ bs) k r.all.0 (run_short p b us bs k (omega (arith, l)) (run_rest p b m us k r))

  -- a run that goes on behind the list
  pub run_long : (p : Plane) (b : Bool) (us bs : List M) (k h : ℕ) → length us ≤ k → IsOneSidedRun spot p b us k →
      IsOneSidedRun spot p b bs h → IsOneSidedRun spot p b (us ++ bs) (k + h)
  run_long p b [] bs zero h l r s = subst (λ j. IsOneSidedRun spot p b bs j) (none h) s
    where
      none : (h : ℕ) → h ≡ 0 + h
      none h = omega arith
  run_long p b [] bs (suc k) h l r s = absurd (omega (arith, r.at_most_all))
  run_long p b (m ∷ us) bs zero h l r s = absurd (omega (arith, l))
  run_long p b (m ∷ us) bs (suc k) h l r s =
      subst (λ j. IsOneSidedRun spot p b (m ∷ (us ++ bs)) j) (one k h)
      (run_more p b m (us ++ bs) (k + h) r.all.0 (run_long p b us bs k h (omega (arith, l)) (run_rest p b m us k r) s))
    where
      one : (k h : ℕ) → suc (k + h) ≡ suc k + h
      one k h = omega arith

-- a slice to the list's end
pub rest_of : {X : Type 0} (k : ℕ) (xs : List X) → take (length xs - k) (drop k xs) ≡ drop k xs
rest_of k xs = take_all (length xs - k) (drop k xs) (same (length-drop k xs))
  where
    same : {a b : ℕ} → a ≡ b → a ≤ b
    same e = omega (arith, e)

-- ---- the entry
-- a list begun after its front has the front at its end
pub turn_split : {X : Type 0} (xs ys : List X) (k : ℕ) → k ≡ length xs → drop k (xs ++ ys) ++ take k (xs ++ ys) ≡ ys ++ xs
turn_split xs ys k e = rw e (λ i. dropped xs ys i ++ taken xs ys i)
  where
    dropped : {X : Type 0} (xs ys : List X) → drop (length xs) (xs ++ ys) ≡ ys
    dropped [] ys = refl
    dropped (x ∷ xs) ys = dropped xs ys

    taken : {X : Type 0} (xs ys : List X) → take (length xs) (xs ++ ys) ≡ xs
    taken [] ys = refl
    taken (x ∷ xs) ys = ap (λ zs. x ∷ zs) (taken xs ys)

-- the first u of a list, the last of them taken apart
pub record LastOfFirst {X : Type 0} (u : ℕ) (ys : List X) : Type 0 where
  pub front : List X
  pub last : X
  pub behind : List X
  pub whole : ys ≡ front ++ last ∷ behind
  pub taken : take u ys ≡ front ++ last ∷ []
  pub left : drop u ys ≡ behind
  pub count : u ≡ suc (length front)

pub last_of_first : {X : Type 0} (u : ℕ) (ys : List X) → 0 < u → u ≤ length ys → LastOfFirst u ys
last_of_first zero ys z l = absurd (omega (arith, z))
last_of_first (suc u) [] z l = absurd (omega (arith, l))
last_of_first (suc zero) (y ∷ ys) z l =
    record { front = []; last = y; behind = ys; whole = refl; taken = refl; left = refl; count = refl }
last_of_first (suc (suc u)) (y ∷ ys) z l =
    let r = last_of_first (suc u) ys (omega arith) (omega (arith, l)) in
    record {
      front = y ∷ r.front;
      last = r.last;
      behind = r.behind;
      whole = ap (λ zs. y ∷ zs) r.whole;
      taken =
          ap (λ zs. y ∷ zs) r.taken;
      left = r.left;
      count = ap suc r.count;
    }

module _ {M : Type 0} (spot : M → Spot) where
  module _ (p : Plane) where
    abbrev IsLow : M → Type 0
    IsLow m = is_under spot p m ≡ true

    abbrev IsHigh : M → Type 0
    IsHigh m = is_under spot p m ≡ false

    pub lows : (us : List M) → AllByRecursion IsLow us → AllByRecursion (λ m. IsNotAbove p (spot m)) us
    lows us h = each_map IsLow (λ m. IsNotAbove p (spot m)) us (λ m e. below_is_not_above (under_out spot p m e)) h

    pub highs : (us : List M) → AllByRecursion IsHigh us → AllByRecursion (λ m. IsNotBelow p (spot m)) us
    highs us h = each_map IsHigh (λ m. IsNotBelow p (spot m)) us (λ m e. least_out spot p m e) h

    enters_at : (us bs : List M) (y : M) (cs : List M) → AllByRecursion IsLow us → AllByRecursion IsHigh bs →
        IsHigh y → Stops spot p false cs → Straddles spot p (us ++ (bs ++ y ∷ cs)) → Enters spot p ((y ∷ cs) ++ (us ++ bs))
    enters_at us bs y (c ∷ cs) ha hb hy s t = (hy, s)
    enters_at (a ∷ us) bs y [] ha hb hy s t = (hy, ha.0)
    enters_at [] bs y [] ha hb hy s t =
        absurd (t.under (each-join (λ m. IsNotBelow p (spot m)) bs (y ∷ []) (highs bs hb) (least_out spot p y hy, tt)))

    first_positive : (us ys : List M) (u : ℕ) → AllByRecursion IsLow us → Stops spot p true ys →
        Stops spot p false (drop u ys) → Straddles spot p (us ++ ys) → 0 < u
    first_positive us ys (suc u) ha s f t = omega arith
    first_positive us (y ∷ ys) zero ha s f t = true_is_not_false f s
    first_positive us [] zero ha s f t =
        absurd (t.above (subst (λ zs. AllByRecursion (λ m. IsNotAbove p (spot m)) zs) (sym (append-nil us)) (lows us ha)))

    module _ (ms : List M) (d u : ℕ) (down : IsOneSidedRun spot p true ms d) (up : IsOneSidedRun spot p false (drop d ms) u) (t : Straddles spot p ms) where
      apart : Straddles spot p (take d ms ++ drop d ms)
      apart = subst (λ zs. Straddles spot p zs) (sym (take-append-drop d ms)) t

      pub up_positive : 0 < u
      up_positive = first_positive (take d ms) (drop d ms) u down.all down.stops up.stops apart

      pub entry_within : d + u - 1 < length ms
      entry_within = omega (arith, up_positive, up.at_most_all, down.at_most_all, length-drop d ms)

      pub entry_enters : Enters spot p (drop (d + u - 1) ms ++ take (d + u - 1) ms)
      entry_enters =
          let w = last_of_first u (drop d ms) up_positive up.at_most_all in
          let high = subst (λ zs. AllByRecursion IsHigh zs) w.taken up.all in
          let e = enters_at (take d ms) w.front w.last w.behind down.all (each-front IsHigh w.front (w.last ∷ []) high)
          (each-back IsHigh w.front (w.last ∷ []) high).0 (subst (λ zs. Stops spot p false zs) w.left up.stops)
          (subst (λ zs. Straddles spot p (take d ms ++ zs)) w.whole apart) in
          let whole : ms ≡ (take d ms ++ w.front) ++ w.last ∷ w.behind =
          sym (take-append-drop d ms) ∙ ap (λ zs. take d ms ++ zs) w.whole
          ∙ sym (append_assoc (take d ms) w.front (w.last ∷ w.behind)) in
          let count : d + u - 1 ≡ length (take d ms ++ w.front) =
          ap (λ k. d + k - 1) w.count ∙ less d (length w.front)
          ∙ sym (length-append (take d ms) w.front
          ∙ ap (λ k. k + length w.front) (length-take-le d ms down.at_most_all)) in
          subst (λ zs. Enters spot p zs) (sym ((λ i. drop (d + u - 1) (whole i) ++ take (d + u - 1) (whole i))
          ∙ turn_split (take d ms ++ w.front) (w.last ∷ w.behind) (d + u - 1) count)) e
        where
          less : (d k : ℕ) → d + suc k - 1 ≡ d + k
          less d k = omega arith

  -- the second corner is below
  pub run_positive : (p : Plane) (m : M) (ns : List M) (c : ℕ) → Enters spot p (m ∷ ns) → IsOneSidedRun spot p true ns c → 0 < c
  run_positive p m [] c e r = absurd e
  run_positive p m (n ∷ ns) zero e r = true_is_not_false e.1 r.stops
  run_positive p m (n ∷ ns) (suc c) e r = omega arith

  -- a run that enters starts at a corner that isn't below
  pub head_high : (p : Plane) (m : M) (ns : List M) → Enters spot p (m ∷ ns) → IsNotBelow p (spot m)
  head_high p m [] e = absurd e
  head_high p m (n ∷ ns) e = least_out spot p m e.0
