-- Lists in order: if each number occurs in both as often, they are equal
use Rattle.std.proofs.Common.{◌≡◌, ◌⊎◌, inl, inr, ℕ, ◌<◌, ◌≤◌, Bool, cond, List, [], ◌∷◌, ◌++◌, length, take, refl, sym, ap, subst, ◌∙◌, arith, eqb}
use Rattle.std.specs.Bool.{Decides}
use Rattle.std.specs.List.Sorted.{IsPermutation, IsNonDecreasing}
use Rattle.std.proofs.lemmas.Bool.{cases_lt}
use Rattle.std.proofs.lemmas.List.Sorted.{IsPermutation-trans, length_permutation}
use Rattle.std.proofs.Math.Seq.{take-append_seam}
use Rattle.ember_balance.specs.Counts.{count}
use Rattle.ember_balance.proofs.SortedSurplus.{Rises, rises, absent_below, head_is_counted, count_permutation}

equal_from : (x y : ℕ) → (x < y → ⊥) → (y < x → ⊥) → x ≡ y
equal_from x y f g = by (cases_lt x y) (cases_lt y x)
  where
    by : (x < y) ⊎ (y ≤ x) → (y < x) ⊎ (x ≤ y) → x ≡ y
    by (inl l) r = absurd (f l)
    by (inr l) (inl m) = absurd (g m)
    by (inr l) (inr m) = omega (arith, l, m)

one_list : (xs ys : List ℕ) → Rises xs → Rises ys → ((n : ℕ) → count n xs ≡ count n ys) → xs ≡ ys
one_list [] [] p q h = refl
one_list [] (y ∷ ys) p q h = let e = h y in let o = head_is_counted y ys in absurd (omega (arith, e, o))
one_list (x ∷ xs) [] p q h = let e = h x in let o = head_is_counted x xs in absurd (omega (arith, e, o))
one_list (x ∷ xs) (y ∷ ys) p q h = let r = one_list xs ys p.1 q.1 rest in λ i. same i ∷ r i
  where
    same : x ≡ y
    same =
        equal_from x y (λ l. let z = absent_below x y ys l q in let o = head_is_counted x xs in let e = h x in
        omega (arith, z, o, e)) (λ l. let z = absent_below y x xs l p in let o = head_is_counted y ys in let e =
        h y in omega (arith, z, o, e))

    rest : (n : ℕ) → count n xs ≡ count n ys
    rest n = let e = h n in let a = ap {B = ℕ} (λ (z : ℕ). cond (eqb n z) 1 0) same in omega (arith, e, a)

module _ (us vs xs ys : List ℕ) (p : IsPermutation us xs) (q : IsPermutation vs ys) where
  -- if the lists in order are equal, each number occurs as often before they were sorted
  counts_from_one_list : xs ≡ ys → (n : ℕ) → count n us ≡ count n vs
  counts_from_one_list e n =
      sym (count_permutation n us xs p) ∙ ap (count n) e ∙ count_permutation n vs ys q

  -- and the other way round
  one_list_from_counts : IsNonDecreasing xs → IsNonDecreasing ys → ((n : ℕ) → count n us ≡ count n vs) → xs ≡ ys
  one_list_from_counts r s h =
      one_list xs ys (rises xs r) (rises ys s) (λ n. count_permutation n us xs p ∙ h n ∙ sym (count_permutation n vs ys q))

-- whether the lists in order are equal tells whether each number occurs as often
pub same_counts_decided : {us vs xs ys : List ℕ} {equal : Bool} → IsPermutation us xs → IsPermutation vs ys →
    IsNonDecreasing xs → IsNonDecreasing ys → Decides equal (xs ≡ ys) → Decides equal ((n : ℕ) → count n us ≡ count n vs)
same_counts_decided p q r s d =
    (λ t. counts_from_one_list _ _ _ _ p q (d.0 t), λ h. d.1 (one_list_from_counts _ _ _ _ p q r s h))

-- a list in another order stands where the first n members were that it had
pub order_written : (us ws xs ys zs : List ℕ) (n : ℕ) → xs ≡ ws → length xs ≡ n → IsPermutation xs ys →
    IsPermutation (take n (ys ++ us)) zs → IsPermutation ws zs
order_written us ws xs ys zs n v l p q =
    let e : take n (ys ++ us) ≡ ys = ap (λ (m : ℕ). take m (ys ++ us)) (sym l ∙ sym (length_permutation xs ys p)) ∙ take-append_seam ys us in
    subst (λ (ts : List ℕ). IsPermutation ts zs) v (IsPermutation-trans xs ys zs p (subst (λ (ts : List ℕ). IsPermutation ts zs) e q))

-- equal lists have the same numbers as often
pub same_lists_count : {us vs xs ys : List ℕ} → us ≡ xs → vs ≡ ys →
    (((n : ℕ) → count n us ≡ count n vs) → (n : ℕ) → count n xs ≡ count n ys) × (((n : ℕ) → count n xs ≡ count n ys) →
    (n : ℕ) → count n us ≡ count n vs)
same_lists_count e f =
    (λ h n. sym (ap (count n) e) ∙ h n ∙ ap (count n) f, λ h n. ap (count n) e ∙ h n ∙ sym (ap (count n) f))
