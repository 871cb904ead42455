-- The lists of a ring's sides, changed in place, and what a passage keeps of the sides.
use Rattle.std.proofs.Common.{◌≡◌, refl, sym, ap, ◌∙◌, arith, ℕ, zero, suc, ◌<◌, ◌≤◌, ◌+◌, ◌-◌, List, [], ◌∷◌, ◌++◌}
use Rattle.std.proofs.Common.{length, take, drop, append_assoc, length-append, length-drop}
use lib.ListN.{set}
use Rattle.std.proofs.Math.Seq.{take-append-add, drop-append_seam}
use Rattle.std.proofs.lemmas.List.{drop_more, drop_all, length-take, length-take-le, take-append-drop, take-append-le, append-nil, set_split}
use Rattle.ember_model.specs.declared.plane.Plane.{Plane}
use Rattle.ember_model.specs.declared.point.Spot.{Spot}
use Rattle.ember_poly.specs.declared.passage.Passage.{Passage}
use Rattle.ember_poly.specs.Rings.{Side, closing_side}
use Rattle.ember_poly.specs.Sides.{sides_of}
use Rattle.ember_poly.specs.Boundaries.{rotated, replace_between, with_start_at, part_sides, with_first_start}
use Rattle.ember_poly.proofs.SideLists.{sides-append, sides-take, sides-drop}
use Rattle.ember_poly.proofs.Runs.{turn_split}

one : (n : ℕ) → n + 1 ≡ suc n
one n = omega arith

-- ---- an item in the place of others
-- of one of them
pub put_first : {X : Type 0} (from : ℕ) (x : X) (xs : List X) → from < length xs → set xs from x ≡ replace_between from (from + 1) x xs
put_first from x xs l =
    set_split xs from x l ∙ ap (λ k. take from xs ++ x ∷ drop k xs) (sym (one from))

-- of one more
pub put_more : {X : Type 0} (from to : ℕ) (x : X) (xs : List X) → from ≤ length xs → to < length xs →
    take (from + 1) (replace_between from to x xs)
    ++ drop (suc (from + 1)) (replace_between from to x xs) ≡ replace_between from (to + 1) x xs
put_more from to x xs lf lt =
    (λ i. take (count i) (replace_between from to x xs) ++ drop (suc (count i)) (replace_between from to x xs))
    ∙ seam x (take from xs) (drop to xs) ∙ ap (λ ys. take from xs ++ x ∷ drop 1 ys) (drop_more xs to x lt)
  where
    count : from + 1 ≡ suc (length (take from xs))
    count = omega (arith, length-take-le from xs lf)

    seam : {X : Type 0} (x : X) (us ys : List X) → take (suc (length us)) (us ++ x ∷ ys) ++ drop (suc (suc (length us))) (us ++ x ∷ ys) ≡ us ++ x ∷ drop 1 ys
    seam x [] ys = refl
    seam x (u ∷ us) ys = ap (λ zs. u ∷ zs) (seam x us ys)

-- a list into which an item was put isn't empty
pub put_some : {X : Type 0} (from to : ℕ) (x : X) (xs : List X) → 0 < length (replace_between from to x xs)
put_some from to x xs = omega (arith, length-append (take from xs) (x ∷ drop to xs))

taken : {X Y : Type 0} (k : ℕ) (xs : List X) (ys : List Y) → length ys ≡ length xs → length (take k ys) ≡ length (take k xs)
taken k xs ys e = rw (length-take k ys, length-take k xs, e) refl

-- ---- rotated
begun_length : {X : Type 0} (k : ℕ) (xs : List X) → length (rotated k xs) ≡ length xs
begun_length k xs =
    omega (arith, length-append (drop k xs) (take k xs), length-append (take k xs) (drop k xs), ap length (take-append-drop k xs))

-- ---- the sides of three lists
module _ {M : Type 0} (spot : M → Spot) where
  -- putting items into the three lists puts a side into the sides
  pub sides_put : (es : List Plane) (ms : List M) (bs : List ℕ) → length ms ≡ length es → length bs ≡ length es →
      (from to : ℕ) (p : Plane) (m : M) (b : ℕ) {us : List Plane} {ns : List M} {cs : List ℕ} →
      us ≡ replace_between from to p es → ns ≡ replace_between from to m ms → cs ≡ replace_between from to b bs →
      sides_of spot us ns cs ≡ replace_between from to (closing_side p (spot m) b) (sides_of spot es ms bs)
  sides_put es ms bs pm pb from to p m b {us} {ns} {cs} eu en ec =
      (λ i. sides_of spot (eu i) (en i) (ec i)) ∙ sides-append spot (take from es) (p ∷ drop to es) (take from ms) (m ∷ drop to ms)
      (take from bs) (b ∷ drop to bs) (taken from es ms pm) (taken from es bs pb)
      ∙ (λ i. sides-take spot from es ms bs i ++ closing_side p (spot m) b ∷ sides-drop spot to es ms bs pm pb i)

  -- changing a corner in the list changes the start of its side
  pub sides_set : (k : ℕ) (es : List Plane) (ms : List M) (bs : List ℕ) (m : M) →
      sides_of spot es (set ms k m) bs ≡ with_start_at k (spot m) (sides_of spot es ms bs)
  sides_set zero [] ms bs m = refl
  sides_set (suc k) [] ms bs m = refl
  sides_set zero (e ∷ es) [] bs m = refl
  sides_set (suc k) (e ∷ es) [] bs m = refl
  sides_set zero (e ∷ es) (n ∷ ms) [] m = refl
  sides_set (suc k) (e ∷ es) (n ∷ ms) [] m = refl
  sides_set zero (e ∷ es) (n ∷ ms) (b ∷ bs) m = refl
  sides_set (suc k) (e ∷ es) (n ∷ ms) (b ∷ bs) m =
      ap (λ zs. record { plane = e; corner = spot n; plane_index = b } ∷ zs) (sides_set k es ms bs m)

-- ---- the first edge starts elsewhere
starting_length : (v : Spot) (xs : List Side) → length (with_first_start v xs) ≡ length xs
starting_length v [] = refl
starting_length v (s ∷ xs) = refl

starting_take : (v : Spot) (k : ℕ) (xs : List Side) → take (k + 1) (with_first_start v xs) ≡ with_first_start v (take (k + 1) xs)
starting_take v k xs =
    ap (λ n. take n (with_first_start v xs)) (one k) ∙ by xs ∙ ap (λ n. with_first_start v (take n xs)) (sym (one k))
  where
    by : (xs : List Side) → take (suc k) (with_first_start v xs) ≡ with_first_start v (take (suc k) xs)
    by [] = refl
    by (s ∷ xs) = refl

starting_append : (v : Spot) (xs ys : List Side) → 0 < length xs → with_first_start v (xs ++ ys) ≡ with_first_start v xs ++ ys
starting_append v [] ys l = absurd (omega (arith, l))
starting_append v (s ∷ xs) ys l = refl

-- ---- what a passage keeps
module _ {W M : Type 0} (spot : M → Spot) where
  module _ (xs : List Side) (at : Passage W M) (p : Plane) (plane_index : ℕ) where
    abbrev first : Spot
    first = spot at.entry

    abbrev last : Side
    last = closing_side p (spot at.exit) plane_index

    abbrev head : List Side
    head = take at.entry_edge xs

    abbrev tail : List Side
    tail = drop at.entry_edge xs

    -- in the ring begun at the entry
    pub part_of_rotated : (n : ℕ) → n ≡ length xs → {ys zs : List Side} → ys ≡ rotated at.entry_edge xs →
        zs ≡ with_start_at 0 first ys → replace_between (at.below_count + 1) n last zs ≡ rotated 0
        (part_sides spot xs at p plane_index)
    part_of_rotated n e {ys} {zs} ey ez =
        ap (λ us. replace_between (at.below_count + 1) n last us) (ez ∙ ap (λ us. with_first_start first us) ey)
        ∙ (λ i. starting_take first at.below_count (rotated at.entry_edge xs) i ++ last ∷ none i)
        ∙ sym (append-nil (part_sides spot xs at p plane_index))
      where
        none : drop n (with_first_start first (rotated at.entry_edge xs)) ≡ []
        none =
            drop_all n (with_first_start first (rotated at.entry_edge xs))
            (omega (arith, e, starting_length first (rotated at.entry_edge xs), begun_length at.entry_edge xs))

    -- in the ring as it is, if the sides below the plane go on at its start
    pub kept_around : (ahead : ℕ) → ahead + at.entry_edge ≡ length xs → 0 < ahead → at.below_count < length xs →
        ahead ≤ at.below_count → {zs : List Side} → zs ≡ with_start_at at.entry_edge first xs →
        replace_between (at.below_count + 1 - ahead) at.entry_edge last zs ≡ rotated ahead (part_sides spot xs at p plane_index)
    kept_around ahead e some within long {zs} ez =
        ap (λ us. replace_between (at.below_count + 1 - ahead) at.entry_edge last us) ez ∙ (λ i. front i ++ last ∷ back i)
        ∙ sym (append_assoc (take (at.below_count + 1 - ahead) head) (last ∷ []) (with_first_start first tail))
        ∙ sym (turn_split (with_first_start first tail) (take (at.below_count + 1 - ahead) head ++ last ∷ []) ahead
        count) ∙ sym (ap (λ us. rotated ahead us) part)
      where
        long_head : length head ≡ at.entry_edge
        long_head = length-take-le at.entry_edge xs (omega arith)

        long_tail : length tail ≡ ahead
        long_tail = omega (arith, e, length-drop at.entry_edge xs)

        count : ahead ≡ length (with_first_start first tail)
        count = sym (starting_length first tail ∙ long_tail)

        front : take (at.below_count + 1 - ahead) (head ++ with_first_start first tail) ≡ take (at.below_count + 1 - ahead) head
        front = take-append-le (at.below_count + 1 - ahead) head (with_first_start first tail) (omega (arith, long_head, e, within, long))

        back : drop at.entry_edge (head ++ with_first_start first tail) ≡ with_first_start first tail
        back =
            ap (λ k. drop k (head ++ with_first_start first tail)) (sym long_head) ∙ drop-append_seam head (with_first_start first tail)

        kept : take (at.below_count + 1) (tail ++ head) ≡ tail ++ take (at.below_count + 1 - ahead) head
        kept =
            ap (λ k. take k (tail ++ head)) (omega (arith, long_tail, long)) ∙ take-append-add tail head (at.below_count + 1 - ahead)

        part : part_sides spot xs at p plane_index ≡ with_first_start first tail ++ (take (at.below_count + 1 - ahead) head ++ last ∷ [])
        part =
            ap (λ us. with_first_start first us ++ last ∷ []) kept
            ∙ ap (λ us. us ++ last ∷ []) (starting_append first tail (take (at.below_count + 1 - ahead) head)
            (omega (arith, long_tail, some))) ∙ append_assoc (with_first_start first tail)
            (take (at.below_count + 1 - ahead) head) (last ∷ [])
