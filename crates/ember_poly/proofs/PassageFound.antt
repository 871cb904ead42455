-- Where a plane plane_has_corners_above a ring, from what a pass over the corners finds.
use Rattle.std.proofs.Common.{◌≡◌, ◌⊎◌, ⊎_elim, inl, inr, sym, ap, subst, ◌∙◌, arith, ℕ, suc, ◌<◌, ◌≤◌, ◌+◌, ◌-◌, true}
use Rattle.std.proofs.Common.{List, [], ◌∷◌, ◌++◌, length, take, drop, pos, ◌<ℤ◌, length-drop, length-append}
use lib.ListN.{get_or}
use Rattle.std.proofs.lemmas.Int.{by_lt_z}
use Rattle.std.proofs.lemmas.List.{drop_more, get_or_default, take-append-drop, append_assoc, append-nil}
use Rattle.std.proofs.lemmas.List.{length-take-le, get_or_append_left, get_or-append_right, get_or-drop, get_or-take}
use Rattle.std.specs.List.{AllByRecursion}
use Rattle.ember_model.specs.declared.point.Spot.{Spot}
use Rattle.ember_model.specs.declared.plane.Plane.{Plane}
use Rattle.ember_model.specs.Planes.{value_at}
use Rattle.ember_poly.specs.Rings.{Side, IsBelow, IsNotAbove, IsNotBelow, IsNotEmpty, IsConvexRing, IsMeet, orientation}
use Rattle.ember_poly.specs.Sides.{sides_of}
use Rattle.ember_poly.specs.Passages.{is_under, Stops, IsOneSidedRun, Enters, Straddles, Leaves, IsPassage}
use Rattle.ember_poly.proofs.Chains.{each_map}
use Rattle.ember_poly.proofs.Rotations.{each-join, each-turned, turned_by}
use Rattle.ember_poly.proofs.InsidePoints.{below_is_not_above}
use Rattle.ember_poly.proofs.RingBelow.{turns_some, turns_all}
use Rattle.ember_poly.proofs.CutOrientation.{in_turn}
use Rattle.ember_poly.proofs.ListOutline.{length-sides_of}
use Rattle.ember_poly.proofs.SideLists.{each_corner, corner_each, sides-take, sides-drop, sides-turned}
use Rattle.ember_poly.proofs.Runs.{under_out, least_out, LastOfFirst, last_of_first, run_positive, head_high}

-- ---- rotated lists
pub record Opened {X : Type 0} (k : ℕ) (xs : List X) : Type 0 where
  pub at : X
  pub here : drop k xs ≡ at ∷ drop (k + 1) xs
  pub same : (d : X) → get_or xs k d ≡ at

open_at : {X : Type 0} (k : ℕ) (xs : List X) → k < length xs → Opened k xs
open_at k [] l = absurd (omega (arith, l))
open_at k (x ∷ xs) l =
    record { at = get_or (x ∷ xs) k x; here = drop_more (x ∷ xs) k x l; same = λ d. get_or_default (x ∷ xs) k d x l }

-- one less than the whole
turned_length : {X : Type 0} (k : ℕ) (xs : List X) → k < length xs → suc (length (drop (k + 1) xs ++ take k xs)) ≡ length xs
turned_length k xs l =
    omega (arith, l, length-append (drop (k + 1) xs) (take k xs), length-drop (k + 1) xs, length-take-le k xs (less l))
  where
    less : {a b : ℕ} → a < b → a ≤ b
    less q = omega (arith, q)

same_length : {X Y : Type 0} (k : ℕ) (xs : List X) (ys : List Y) → k < length xs → length ys ≡ length xs →
    length (drop (k + 1) ys ++ take k ys) ≡ length (drop (k + 1) xs ++ take k xs)
same_length k xs ys l e =
    omega (arith, e, turned_length k xs l, turned_length k ys (subst (λ j. k < j) (sym e) l))

turned_get : {X : Type 0} (xs : List X) (k c r : ℕ) (d : X) → k < length xs → c < length xs → r < length xs →
    ((r ≡ k + c) ⊎ (r + length xs ≡ k + c)) → get_or (drop k xs ++ take k xs) c d ≡ get_or xs r d
turned_get xs k c r d lk lc lr p = ⊎_elim ahead behind p
  where
    ahead : r ≡ k + c → get_or (drop k xs ++ take k xs) c d ≡ get_or xs r d
    ahead e =
        let l : c < length (drop k xs) = omega (arith, e, lr, length-drop k xs) in
        get_or_append_left (drop k xs) (take k xs) d c l ∙ get_or-drop k xs c d ∙ ap (λ i. get_or xs i d) (sym e)

    behind : r + length xs ≡ k + c → get_or (drop k xs ++ take k xs) c d ≡ get_or xs r d
    behind e =
        let l : length xs - k ≤ c = omega (arith, e, lk) in let m : r < k = omega (arith, e, lc) in
        let i : c - (length xs - k) ≡ r = omega (arith, e, lk) in
        get_or-append_right (drop k xs) (take k xs) (length xs - k) c d (length-drop k xs) l ∙ ap (λ j. get_or (take k xs) j d) i ∙ get_or-take k xs r d m

module _ {M : Type 0} (spot : M → Spot) where
  -- the plane of a side by its place
  plane_at : (es : List Plane) (ms : List M) (bs : List ℕ) (front : List Side) (l : Side) (behind : List Side)
      (d : Plane) → sides_of spot es ms bs ≡ front ++ l ∷ behind → get_or es (length front) d ≡ l.plane
  plane_at [] ms bs [] l behind d e = cc
  plane_at [] ms bs (f ∷ front) l behind d e = cc
  plane_at (e ∷ es) [] bs [] l behind d h = cc
  plane_at (e ∷ es) [] bs (f ∷ front) l behind d h = cc
  plane_at (e ∷ es) (m ∷ ms) [] [] l behind d h = cc
  plane_at (e ∷ es) (m ∷ ms) [] (f ∷ front) l behind d h = cc
  plane_at (e ∷ es) (m ∷ ms) (b ∷ bs) [] l behind d h = ap (λ (s : Side). s.plane) (first h)
    where
      first : {s t : Side} {xs ys : List Side} → s ∷ xs ≡ t ∷ ys → s ≡ t
      first q = cc
  plane_at (e ∷ es) (m ∷ ms) (b ∷ bs) (f ∷ front) l behind d h =
      plane_at es ms bs front l behind d (rest h)
    where
      rest : {s t : Side} {xs ys : List Side} → s ∷ xs ≡ t ∷ ys → xs ≡ ys
      rest q = cc

-- ---- behind the sides below the plane
abbrev NextHigh : Plane → List Side → Type 0
NextHigh p [] = Unit {0}
NextHigh p (s ∷ xs) = IsNotBelow p s.corner

module _ {M : Type 0} (spot : M → Spot) where
  next_high : (p : Plane) (es : List Plane) (ms : List M) (bs : List ℕ) → Stops spot p true ms → NextHigh p (sides_of spot es ms bs)
  next_high p [] ms bs s = tt
  next_high p (e ∷ es) [] bs s = tt
  next_high p (e ∷ es) (m ∷ ms) [] s = tt
  next_high p (e ∷ es) (m ∷ ms) (b ∷ bs) s = least_out spot p m s

leaves_by : (p : Plane) (f : Side) (ks ds : List Side) → AllByRecursion (λ s. IsBelow p s.corner) ks → NextHigh p ds →
    (AllByRecursion (λ s. IsNotAbove p s.corner) (f ∷ ks ++ ds) → ⊥) → Leaves p f ds
leaves_by p f ks [] u h n =
    by_lt_z (pos 0) (value_at p f.corner) (λ l. record { over = l })
    (λ l. absurd (n (
      record { at_most = l },
      each-join (λ s. IsNotAbove p s.corner) ks []
          (each_map (λ s. IsBelow p s.corner) (λ s. IsNotAbove p s.corner) ks (λ s q. below_is_not_above q) u) tt,
    )))
leaves_by p f ks (d ∷ []) u h n = (
  h,
  by_lt_z (pos 0) (value_at p f.corner) (λ l. inl (record { over = l }))
      (λ l. by_lt_z (pos 0) (value_at p d.corner) (λ k. inr (inl (record { over = k })))
      (λ k. absurd (n (
        record { at_most = l },
        each-join (λ s. IsNotAbove p s.corner) ks (d ∷ [])
            (each_map (λ s. IsBelow p s.corner) (λ s. IsNotAbove p s.corner) ks (λ s q. below_is_not_above q) u)
            (record { at_most = k }, tt),
      )))),
)
leaves_by p f ks (d ∷ e ∷ ds) u h n = (h, inr (inr tt))

-- not all that is left behind the sides below the plane lies on the plane
pub plane_has_corners_above : (p : Plane) (f d : Side) (ds : List Side) → Leaves p f (d ∷ ds) →
    (pos 0 <ℤ value_at p f.corner) ⊎ ((pos 0 <ℤ value_at p d.corner) ⊎ IsNotEmpty ds)
plane_has_corners_above p f d ds q = ⊎_elim (λ a. inl a.over) (λ r. inr (⊎_elim (λ a. inl a.over) (λ a. inr a) r)) q.1

-- the planes at the two ends of the chord meet in one point
pub turns_of : (n p : Plane) (f l : Side) (ks ds : List Side) → IsConvexRing n (f ∷ (ks ++ l ∷ []) ++ ds) →
    AllByRecursion (λ s. IsBelow p s.corner) (ks ++ l ∷ []) → IsNotBelow p f.corner → Leaves p f ds →
    (pos 0 <ℤ orientation n l.plane p) × (pos 0 <ℤ orientation n p f.plane)
turns_of n p f l ks [] s u a q =
    turns_all n p f l ks q.over (subst (λ zs. IsConvexRing n (f ∷ zs)) (append-nil (ks ++ l ∷ [])) s) u
turns_of n p f l ks (d ∷ ds) s u a q = turns_some n p f l d ds ks a.at_least q.0.at_least s u

module _ {M : Type 0} (spot : M → Spot) where
  module _ (n p : Plane) (es : List Plane) (ms : List M) (bs : List ℕ) (k c r : ℕ) (em : length ms ≡ length es)
      (eb : length bs ≡ length es) (within : k < length ms) (enters : Enters spot p (drop k ms ++ take k ms))
      (run : IsOneSidedRun spot p true (drop (k + 1) ms ++ take k ms) c) (sound : IsConvexRing n (sides_of spot es ms bs))
      (straddles : Straddles spot p ms) where
    abbrev xs : List Side
    xs = sides_of spot es ms bs

    in_es : k < length es
    in_es = subst (λ j. k < j) em within

    e : Opened k es
    e = open_at k es in_es

    m : Opened k ms
    m = open_at k ms within

    b : Opened k bs
    b = open_at k bs (subst (λ j. k < j) (sym eb) in_es)

    abbrev es' : List Plane
    es' = drop (k + 1) es ++ take k es

    abbrev ms' : List M
    ms' = drop (k + 1) ms ++ take k ms

    abbrev bs' : List ℕ
    bs' = drop (k + 1) bs ++ take k bs

    em' : length ms' ≡ length es'
    em' = same_length k es ms in_es em

    eb' : length bs' ≡ length es'
    eb' = same_length k es bs in_es eb

    abbrev head : Side
    head = record { plane = e.at; corner = spot m.at; plane_index = b.at }

    abbrev ys : List Side
    ys = sides_of spot es' ms' bs'

    begun_e : e.at ∷ es' ≡ drop k es ++ take k es
    begun_e = ap (λ zs. zs ++ take k es) (sym e.here)

    begun_m : m.at ∷ ms' ≡ drop k ms ++ take k ms
    begun_m = ap (λ zs. zs ++ take k ms) (sym m.here)

    begun : head ∷ ys ≡ drop k xs ++ take k xs
    begun =
        sides-turned spot k es (e.at ∷ es') ms (m.at ∷ ms') bs (b.at ∷ bs') em eb begun_e begun_m (ap (λ zs. zs ++ take k bs) (sym b.here))

    enters' : Enters spot p (m.at ∷ ms')
    enters' = subst (λ zs. Enters spot p zs) (sym begun_m) enters

    at_most_all : c ≤ length ys
    at_most_all = subst (λ j. c ≤ j) (sym (length-sides_of spot es' ms' bs' em' eb' ∙ sym em')) run.at_most_all

    w : LastOfFirst c ys
    w = last_of_first c ys (run_positive spot p m.at ms' c enters' run) at_most_all

    whole : ys ≡ (w.front ++ w.last ∷ []) ++ w.behind
    whole = w.whole ∙ sym (append_assoc w.front (w.last ∷ []) w.behind)

    turned : drop k xs ++ take k xs ≡ head ∷ (w.front ++ w.last ∷ []) ++ w.behind
    turned = sym begun ∙ ap (λ zs. head ∷ zs) whole

    under : AllByRecursion (λ s. IsBelow p s.corner) (w.front ++ w.last ∷ [])
    under =
        subst (λ zs. AllByRecursion (λ s. IsBelow p s.corner) zs) (sides-take spot c es' ms' bs' ∙ w.taken)
        (each_corner spot (λ v. IsBelow p v) (take c es') (take c ms') (take c bs')
        (each_map (λ m. is_under spot p m ≡ true) (λ m. IsBelow p (spot m)) (take c ms') (λ m q. under_out spot p m q)
        run.all))

    not_all : AllByRecursion (λ s. IsNotAbove p s.corner) (head ∷ ys) → ⊥
    not_all h =
        straddles.above (subst (λ zs. AllByRecursion (λ m. IsNotAbove p (spot m)) zs) (take-append-drop k ms)
        (each-turned (λ m. IsNotAbove p (spot m)) (drop k ms) (take k ms)
        (subst (λ zs. AllByRecursion (λ m. IsNotAbove p (spot m)) zs) begun_m
        (corner_each spot (λ v. IsNotAbove p v) (e.at ∷ es') (m.at ∷ ms') (b.at ∷ bs') (ap suc em') (ap suc eb') h))))

    leaves : Leaves p head w.behind
    leaves =
        leaves_by p head (w.front ++ w.last ∷ []) w.behind under
        (subst (λ zs. NextHigh p zs) (sides-drop spot c es' ms' bs' em' eb' ∙ w.left)
        (next_high spot p (drop c es') (drop c ms') (drop c bs') run.stops))
        (λ h. not_all (subst (λ zs. AllByRecursion (λ s. IsNotAbove p s.corner) (head ∷ zs)) (sym whole) h))

    sound' : IsConvexRing n (head ∷ (w.front ++ w.last ∷ []) ++ w.behind)
    sound' =
        subst (λ zs. IsConvexRing n zs) turned (turned_by n (take k xs) (drop k xs) (subst (λ zs. IsConvexRing n zs) (sym (take-append-drop k xs)) sound))

    turns : (pos 0 <ℤ orientation n w.last.plane p) × (pos 0 <ℤ orientation n p e.at)
    turns = turns_of n p head w.last w.front w.behind sound' under (head_high spot p m.at ms' enters') leaves

    module _ (in_r : r < length ms) (index : (r ≡ k + c) ⊎ (r + length ms ≡ k + c)) where
      last_plane : (d : Plane) → get_or es r d ≡ w.last.plane
      last_plane d =
          let lc : c < length es = omega (arith, run.at_most_all, turned_length k ms within, em) in
          let lr : r < length es = subst (λ j. r < j) em in_r in
          let pl : (r ≡ k + c) ⊎ (r + length es ≡ k + c) = subst (λ j. (r ≡ k + c) ⊎ (r + j ≡ k + c)) em index in
          sym (turned_get es k c r d in_es lc lr pl) ∙ ap (λ zs. get_or zs c d) (sym begun_e)
          ∙ ap (λ j. get_or (e.at ∷ es') j d) w.count
          ∙ plane_at spot (e.at ∷ es') (m.at ∷ ms') (b.at ∷ bs') (head ∷ w.front) w.last w.behind d
          (ap (λ zs. head ∷ zs) w.whole)

      pub entry_turns : (d : Plane) → pos 0 <ℤ orientation (get_or es k d) n p
      entry_turns d =
          subst (λ g. pos 0 <ℤ orientation g n p) (sym (e.same d)) (subst (λ z. pos 0 <ℤ z) (in_turn n p e.at) turns.1)

      pub exit_turns : (d : Plane) → pos 0 <ℤ orientation n (get_or es r d) p
      exit_turns d = subst (λ g. pos 0 <ℤ orientation n g p) (sym (last_plane d)) turns.0

      pub passage_is : {W : Type 0} (y z : M) (d g : Plane) → IsMeet (get_or es k d) n p (spot z) →
          IsMeet n (get_or es r g) p (spot y) → IsPassage {W = W} spot n p xs
          (record { entry_edge = k; below_count = c; entry = z; exit = y })
      passage_is y z d g mz my =
          record {
            head = head;
            firsts = w.front;
            last = w.last;
            others = w.behind;
            within = subst (λ j. k < j) (sym (length-sides_of spot es ms bs em eb)) in_es;
            turned = turned;
            count = w.count;
            under = under;
            enters = head_high spot p m.at ms' enters';
            leaves = leaves;
            entry = subst (λ h. IsMeet n h p (spot z)) (e.same d) (record { first = mz.second; second = mz.first; third = mz.third; weight = mz.weight });
            exit = subst (λ h. IsMeet n h p (spot y)) (last_plane g) my;
          }
