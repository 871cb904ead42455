-- Sums over lists after an edit, and in another order
use Rattle.std.proofs.Common.{◌≡◌, ℕ, suc, ◌+◌, List, [], ◌∷◌, ◌++◌, take, drop, Some, slice_get, ℤ, pos, negsuc, ◌+ℤ◌, ◌-ℤ◌, sym, ap, ◌∙◌, arith}
use Rattle.std.specs.List.{sum_by}
use Rattle.std.specs.List.Sorted.{IsPermutation}
use Rattle.std.proofs.lemmas.List.{take_more, take-append-drop}
use Rattle.std.proofs.lemmas.List.Sums.{sum_by-cons}
use Rattle.std.proofs.lemmas.List.Sorted.{sum_by-IsPermutation}
use Rattle.std.proofs.lemmas.Option.{slice_get_within, get_or_from_slice_get}
use borrow.Author.Differences.{ints}
use Rattle.ember_algebra.specs.Sums.{total}
use Rattle.ember_algebra.proofs.Laws.{linear}
use Rattle.ember_algebra.proofs.Sums.{total-append}

-- an integer as a difference
abbrev above : ℤ → ℕ
above (pos n) = n
above (negsuc n) = 0

abbrev below : ℤ → ℕ
below (pos n) = 0
below (negsuc n) = suc n

apart : (z : ℤ) → z ≡ pos (above z) -ℤ pos (below z)
apart (pos n) = omega (arith, ints)
apart (negsuc n) = omega (arith, ints)

added : (z t : ℤ) (i j k l m n : ℕ) → z ≡ pos i -ℤ pos j → t ≡ pos k -ℤ pos l → m ≡ i + k → n ≡ j + l → z +ℤ t ≡ pos m -ℤ pos n
added z t i j k l m n a b c d = omega (arith, ints, a, b, c, d)

module _ {U : Type 0} (f : U → ℤ) where
  total-apart : (xs : List U) → total f xs ≡ pos (sum_by (λ x. above (f x)) xs) -ℤ pos (sum_by (λ x. below (f x)) xs)
  total-apart [] = omega (arith, ints)
  total-apart (x ∷ xs) =
      added (f x) (total f xs) (above (f x)) (below (f x)) (sum_by (λ x. above (f x)) xs) (sum_by (λ x. below (f x)) xs)
      (sum_by (λ x. above (f x)) (x ∷ xs)) (sum_by (λ x. below (f x)) (x ∷ xs)) (apart (f x)) (total-apart xs)
      (sum_by-cons (λ x. above (f x)) x xs) (sum_by-cons (λ x. below (f x)) x xs)

  -- the order of the list doesn't matter
  pub total-permutation : (xs ys : List U) → IsPermutation xs ys → total f ys ≡ total f xs
  total-permutation xs ys h =
      let a = sum_by-IsPermutation (λ x. above (f x)) xs ys h in
      let b = sum_by-IsPermutation (λ x. below (f x)) xs ys h in
      total-apart ys ∙ (λ i. pos (a i) -ℤ pos (b i)) ∙ sym (total-apart xs)

  -- one more element at the end
  pub total-push : (xs ys : List U) (x : U) → ys ≡ xs ++ x ∷ [] → total f ys ≡ total f xs +ℤ f x
  total-push xs ys x e = ap (total f) e ∙ total-append f xs (x ∷ []) ∙ last (total f xs) (f x)
    where
      last : (s t : ℤ) → s +ℤ (t +ℤ pos 0) ≡ s +ℤ t
      last s t = omega (arith, linear)

  -- one more element at a place
  pub total-insert : (xs : List U) (i : ℕ) (x : U) → total f (take i xs ++ x ∷ drop i xs) ≡ total f xs +ℤ f x
  total-insert xs i x =
      let a = total-append f (take i xs) (x ∷ drop i xs) in
      let b = sym (ap (total f) (take-append-drop i xs)) ∙ total-append f (take i xs) (drop i xs) in
      a ∙ between (total f (take i xs)) (f x) (total f (drop i xs)) ∙ (λ j. sym b j +ℤ f x)
    where
      between : (s t u : ℤ) → s +ℤ (t +ℤ u) ≡ (s +ℤ u) +ℤ t
      between s t u = omega (arith, linear)

  -- without the element at a place
  pub total-remove : (xs : List U) (i : ℕ) (x : U) → slice_get xs i ≡ Some x → total f (take i xs ++ drop (i + 1) xs) +ℤ f x ≡ total f xs
  total-remove xs i x e =
      let a = total-append f (take i xs) (drop (i + 1) xs) in
      let b = sym (ap (total f) (take-append-drop (i + 1) xs)) ∙ total-append f (take (i + 1) xs) (drop (i + 1) xs) in
      let c = ap (total f) (take_more xs i x (slice_get_within xs i x e)
      ∙ ap (λ (y : U). take i xs ++ y ∷ []) (get_or_from_slice_get xs i x x e))
      ∙ total-append f (take i xs) (x ∷ []) in
      without (total f (take i xs)) (total f (drop (i + 1) xs)) (f x) (total f (take i xs ++ drop (i + 1) xs)) (total f (take (i + 1) xs)) (total f xs) a c b
    where
      without : (s t u v w z : ℤ) → v ≡ s +ℤ t → w ≡ s +ℤ (u +ℤ pos 0) → z ≡ w +ℤ t → v +ℤ u ≡ z
      without s t u v w z a b c = omega (arith, linear, a, b, c)
