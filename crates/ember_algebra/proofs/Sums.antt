-- Laws of sums over lists, and: lists in which each element occurs as often have equal sums.
use Rattle.std.proofs.Common.{◌≡◌, ℕ, ◌+◌, ◌<◌, Bool, true, false, cond, List, [], ◌∷◌, ◌++◌, map, filter, length, take}
use Rattle.std.proofs.Common.{get_or, ℤ, pos, ◌+ℤ◌, ◌-ℤ◌, ◌*ℤ◌, neg_ℤ, refl, sym, ap, ◌∙◌, arith}
use Rattle.std.specs.List.{All, flat_map, count_by}
use Rattle.std.proofs.lemmas.List.{take_more}
use Rattle.std.proofs.lemmas.List.Elements.{All-head, All-tail}
use Rattle.std.proofs.lemmas.List.Sums.{sum_by-cons}
use lib.IntN.{*ℤ-zero}
use Rattle.ember_algebra.specs.Sums.{total, occurrences}
use Rattle.ember_algebra.proofs.Laws.{linear, *ℤ-+ℤ}

-- ---- the parts of a list
-- the sum over two lists together is the sum over the first plus that over the second
pub total-append : {U : Type 0} (f : U → ℤ) (xs ys : List U) → total f (xs ++ ys) ≡ total f xs +ℤ total f ys
total-append f [] ys = omega (arith, linear)
total-append f (x ∷ xs) ys = let r = total-append f xs ys in omega (arith, linear, r)

-- the sum over a mapped list is the sum of the composed function
pub total-map : {U V : Type 0} (f : V → ℤ) (g : U → V) (xs : List U) → total f (map g xs) ≡ total (λ x. f (g x)) xs
total-map f g [] = refl
total-map f g (x ∷ xs) = ap (λ (z : ℤ). f (g x) +ℤ z) (total-map f g xs)

-- the sum over lists put together is the sum of the sums over each
pub total-flat_map : {U V : Type 0} (f : V → ℤ) (g : U → List V) (xs : List U) → total f (flat_map g xs) ≡ total (λ x. total f (g x)) xs
total-flat_map f g [] = refl
total-flat_map f g (x ∷ xs) =
    total-append f (g x) (flat_map g xs) ∙ ap (λ (z : ℤ). total f (g x) +ℤ z) (total-flat_map f g xs)

-- the sum over one member more is greater by the value at that member
pub total-take_more : {U : Type 0} (f : U → ℤ) (xs : List U) (i : ℕ) (d : U) → i < length xs →
    total f (take (i + 1) xs) ≡ total f (take i xs) +ℤ f (get_or xs i d)
total-take_more f xs i d lt =
    ap (total f) (take_more xs i d lt) ∙ total-append f (take i xs) (get_or xs i d ∷ []) ∙ omega (arith, linear)

-- ---- the elements that pass a test, and the others
-- the sum over the members with a property is the sum with 0 at all others
pub total-filter : {U : Type 0} (f : U → ℤ) (p : U → Bool) (xs : List U) → total f (filter p xs) ≡ total (λ x. cond (p x) (f x) (pos 0)) xs
total-filter f p [] = refl
total-filter f p (x ∷ xs) = by (p x) (total-filter f p xs)
  where
    by : (b : Bool) → total f (filter p xs) ≡ total (λ x. cond (p x) (f x) (pos 0)) xs →
        total f (cond b (x ∷ filter p xs) (filter p xs)) ≡ cond b (f x) (pos 0) +ℤ total (λ x. cond (p x) (f x) (pos 0))
        xs
    by true e = ap (λ (z : ℤ). f x +ℤ z) e
    by false e = omega (arith, linear, e)

-- a sum of 1 for each member that passes is their number
pub total-count_by : {U : Type 0} (p : U → Bool) (xs : List U) → total (λ x. cond (p x) (pos 1) (pos 0)) xs ≡ pos (count_by p xs)
total-count_by p [] = refl
total-count_by p (x ∷ xs) = by (p x) (sum_by-cons (λ x. cond (p x) 1 0) x xs) (total-count_by p xs)
  where
    by : (b : Bool) → count_by p (x ∷ xs) ≡ cond b 1 0 + count_by p xs →
        total (λ x. cond (p x) (pos 1) (pos 0)) xs ≡ pos (count_by p xs) →
        cond b (pos 1) (pos 0) +ℤ total (λ x. cond (p x) (pos 1) (pos 0)) xs ≡ pos (count_by p (x ∷ xs))
    by true c e = ap (λ (z : ℤ). pos 1 +ℤ z) e ∙ ap pos (sym c)
    by false c e = ap (λ (z : ℤ). pos 0 +ℤ z) e ∙ ap pos (sym c)

-- ---- sums of sums, of multiples and of equal terms
-- functions with the same values have the same sum
pub total_same : {U : Type 0} (f g : U → ℤ) → ((x : U) → f x ≡ g x) → (xs : List U) → total f xs ≡ total g xs
total_same f g h [] = refl
total_same f g h (x ∷ xs) = cc (h x, total_same f g h xs)

-- functions that are equal at all members have equal sums
pub total_same_all : {U : Type 0} (f g : U → ℤ) (xs : List U) → All (λ x. f x ≡ g x) xs → total f xs ≡ total g xs
total_same_all f g [] h = refl
total_same_all f g (x ∷ xs) h =
    cc (All-head (λ x. f x ≡ g x) x xs h, total_same_all f g xs (All-tail (λ x. f x ≡ g x) x xs h))

-- a sum of zeros is 0
pub total_zero : {U : Type 0} (f : U → ℤ) → ((x : U) → f x ≡ pos 0) → (xs : List U) → total f xs ≡ pos 0
total_zero f h [] = refl
total_zero f h (x ∷ xs) = let e = h x in let r = total_zero f h xs in omega (arith, linear, e, r)

-- the sum of two functions' values is the sum of both sums
pub total-add : {U : Type 0} (f g : U → ℤ) (xs : List U) → total (λ x. f x +ℤ g x) xs ≡ total f xs +ℤ total g xs
total-add f g [] = refl
total-add f g (x ∷ xs) = let r = total-add f g xs in omega (arith, linear, r)

-- the sum of differences is the difference of the sums
pub total-sub : {U : Type 0} (f g : U → ℤ) (xs : List U) → total (λ x. f x -ℤ g x) xs ≡ total f xs -ℤ total g xs
total-sub f g [] = refl
total-sub f g (x ∷ xs) = let r = total-sub f g xs in omega (arith, linear, r)

-- the sum of the opposites is the opposite of the sum
pub total-neg : {U : Type 0} (f : U → ℤ) (xs : List U) → total (λ x. neg_ℤ (f x)) xs ≡ neg_ℤ (total f xs)
total-neg f [] = refl
total-neg f (x ∷ xs) = let r = total-neg f xs in omega (arith, linear, r)

-- the sum of k times the values is k times the sum
pub total-scale : {U : Type 0} (k : ℤ) (f : U → ℤ) (xs : List U) → total (λ x. k *ℤ f x) xs ≡ k *ℤ total f xs
total-scale k f [] = sym (*ℤ-zero k)
total-scale k f (x ∷ xs) = ap (λ (z : ℤ). k *ℤ f x +ℤ z) (total-scale k f xs) ∙ sym (*ℤ-+ℤ k (f x) (total f xs))

-- ---- lists in which each element occurs as often
-- `same` says whether two elements are equal
pub record IsEquality (U : Type 0) (same : U → U → Bool) : Type 0 where
  pub sound : (x y : U) → same x y ≡ true → x ≡ y
  pub reflexive : (x : U) → same x x ≡ true

-- occurrences, as a count of those that are the same
pub occurrences-count_by : {U : Type 0} (same : U → U → Bool) (x : U) (ys : List U) → occurrences same x ys ≡ count_by (same x) ys
occurrences-count_by same x [] = refl
occurrences-count_by same x (y ∷ ys) =
    ap (λ (n : ℕ). cond (same x y) 1 0 + n) (occurrences-count_by same x ys) ∙ sym (sum_by-cons (λ y. cond (same x y) 1 0) y ys)

-- a value occurs in two lists together as often as in the first and in the second
pub occurrences-append : {U : Type 0} (same : U → U → Bool) (x : U) (ys zs : List U) →
    occurrences same x (ys ++ zs) ≡ occurrences same x ys + occurrences same x zs
occurrences-append same x [] zs = omega arith
occurrences-append same x (y ∷ ys) zs = let r = occurrences-append same x ys zs in omega (arith, r)

-- if g is undone by h, the element x occurs under g as often as h x before
pub occurrences-map : {U : Type 0} (same : U → U → Bool) (g h : U → U) → ((x y : U) → same x (g y) ≡ same (h x) y) →
    (x : U) (ys : List U) → occurrences same x (map g ys) ≡ occurrences same (h x) ys
occurrences-map same g h e x [] = refl
occurrences-map same g h e x (y ∷ ys) =
    rw (e x y) (ap (λ (n : ℕ). cond (same (h x) y) 1 0 + n) (occurrences-map same g h e x ys))

module _ {U : Type 0} (same : U → U → Bool) (eq : IsEquality U same) where
  -- without the first x
  abbrev without : U → List U → List U
  without z [] = []
  without z (x ∷ xs) = elim (same z x) [ true ↦ xs | false ↦ x ∷ without z xs ]

  total-without : (f : U → ℤ) (z : U) (xs : List U) → 0 < occurrences same z xs → total f xs ≡ f z +ℤ total f (without z xs)
  total-without f z [] h = absurd (omega arith)
  total-without f z (x ∷ xs) h = by (same z x) refl h (total-without f z xs)
    where
      by : (b : Bool) → same z x ≡ b → 0 < cond b 1 0 + occurrences same z xs →
          (0 < occurrences same z xs → total f xs ≡ f z +ℤ total f (without z xs)) →
          f x +ℤ total f xs ≡ f z +ℤ total f (elim b [ true ↦ xs | false ↦ x ∷ without z xs ])
      by true e h t = ap (λ (u : U). f u +ℤ total f xs) (sym (eq.sound z x e))
      by false e h t = let r = t (omega arith) in omega (arith, linear, r)

  occurrences-without : (w z : U) (xs : List U) → 0 < occurrences same z xs → occurrences same w xs ≡ cond (same w z) 1 0 + occurrences same w (without z xs)
  occurrences-without w z [] h = absurd (omega arith)
  occurrences-without w z (x ∷ xs) h = by (same z x) refl h (occurrences-without w z xs)
    where
      by : (b : Bool) → same z x ≡ b → 0 < cond b 1 0 + occurrences same z xs →
          (0 < occurrences same z xs → occurrences same w xs ≡ cond (same w z) 1 0 + occurrences same w (without z xs)) →
          cond (same w x) 1 0 + occurrences same w xs ≡ cond (same w z) 1 0
          + occurrences same w (elim b [ true ↦ xs | false ↦ x ∷ without z xs ])
      by true e h t = ap (λ (u : U). cond (same w u) 1 0 + occurrences same w xs) (sym (eq.sound z x e))
      by false e h t = let r = t (omega arith) in omega (arith, r)

  own : (x : U) (xs : List U) → 0 < occurrences same x (x ∷ xs)
  own x xs = rw (eq.reflexive x) (omega arith)

  -- lists in which each element occurs equally often have equal sums
  pub total_same_occurrences : (f : U → ℤ) (xs ys : List U) → ((z : U) → occurrences same z xs ≡ occurrences same z ys) → total f xs ≡ total f ys
  total_same_occurrences f [] [] h = refl
  total_same_occurrences f [] (y ∷ ys) h = absurd (let r = h y in let o = own y ys in omega (arith, r, o))
  total_same_occurrences f (x ∷ xs) ys h =
      let some : 0 < occurrences same x ys = let r = h x in let o = own x xs in omega (arith, r, o) in
      let rest = total_same_occurrences f xs (without x ys) (λ z. let r = h z in let t = occurrences-without z x ys some in omega (arith, r, t)) in
      ap (λ (t : ℤ). f x +ℤ t) rest ∙ sym (total-without f x ys some)

  -- if each element occurs as often as its image under turn, a term that turn negates adds up to 0
  pub total_odd : (f : U → ℤ) (turn : U → U) → ((x : U) → f (turn x) ≡ neg_ℤ (f x)) →
      ((x y : U) → same x (turn y) ≡ same (turn x) y) → (xs : List U) →
      ((z : U) → occurrences same z xs ≡ occurrences same (turn z) xs) → total f xs ≡ pos 0
  total_odd f turn odd swaps xs h =
      let e = total_same_occurrences f xs (map turn xs) (λ z. h z ∙ sym (occurrences-map same turn turn swaps z xs)) in
      let r = total-map f turn xs ∙ total_same (λ x. f (turn x)) (λ x. neg_ℤ (f x)) odd xs ∙ total-neg f xs in
      omega (arith, linear, e, r)
