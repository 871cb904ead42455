-- By how much numbers occur more often in one list than in another
use Rattle.std.proofs.Common.{◌≡◌, ◌⊎◌, inl, inr, ℕ, zero, suc, ◌+◌, ◌-◌, ◌<◌, ◌≤◌, List, [], ◌∷◌, length, get_or, drop, refl, sym, ap, subst, ◌∙◌, arith}
use Rattle.std.specs.List.{AllByRecursion}
use Rattle.std.specs.List.Sorted.{IsNonDecreasing}
use Rattle.std.proofs.lemmas.Bool.{cases_lt, ne_eqb, eq-eqb}
use Rattle.std.proofs.lemmas.List.{drop_all, drop_more}
use Rattle.ember_balance.specs.Counts.{count}
use Rattle.ember_balance.proofs.SortedSurplus.{Rises, rises, absent_below}
use Rattle.mesh_scene.specs.Scene.LooseEdges.{number_excess}
use Rattle.mesh_scene.proofs.Sums.{below, below_same, below_point, gated, once_is_below}

-- a limit above all numbers of a list
abbrev limit_of : List ℕ → ℕ
limit_of [] = 0
limit_of (x ∷ xs) = suc (x + limit_of xs)

below_limit : (xs : List ℕ) (limit : ℕ) → limit_of xs ≤ limit → AllByRecursion (λ n. n < limit) xs
below_limit [] limit l = tt
below_limit (x ∷ xs) limit l = (omega (arith, l), below_limit xs limit (omega (arith, l)))

-- by how much this number does
abbrev difference : List ℕ → List ℕ → ℕ → ℕ
difference xs ys n = count n xs - count n ys

excess_is_below : (xs ys : List ℕ) (limit : ℕ) → limit_of xs ≤ limit → number_excess xs ys ≡ below (difference xs ys) limit
unfolding number_excess
excess_is_below xs ys limit l =
    once_is_below (difference xs ys) limit xs (below_limit xs limit l)
    ∙ below_same (λ n. gated (count n xs) (difference xs ys n)) (difference xs ys) limit
    (λ n m. open_gate (count n xs) (count n ys))
  where
    open_gate : (k c : ℕ) → gated k (k - c) ≡ k - c
    open_gate zero c = omega arith
    open_gate (suc k) c = refl

-- no numbers occur more often in an empty list
pub excess_nothing : (ys : List ℕ) → number_excess [] ys ≡ 0
unfolding number_excess
excess_nothing ys = refl

-- second lists that have the first one's numbers equally often
pub excess_same : (xs ys zs : List ℕ) → ((n : ℕ) → 0 < count n xs → count n ys ≡ count n zs) → number_excess xs ys ≡ number_excess xs zs
excess_same xs ys zs h =
    excess_is_below xs ys (limit_of xs) (omega arith)
    ∙ below_same (difference xs ys) (difference xs zs) (limit_of xs) (λ n l. by n (cases_lt 0 (count n xs)))
    ∙ sym (excess_is_below xs zs (limit_of xs) (omega arith))
  where
    by : (n : ℕ) → (0 < count n xs) ⊎ (count n xs ≤ 0) → difference xs ys n ≡ difference xs zs n
    by n (inl l) = ap (λ (c : ℕ). count n xs - c) (h n l)
    by n (inr l) = omega (arith, l)

-- lists with the same numbers, in any order
pub excess_permuted : (xs us ys zs : List ℕ) → ((n : ℕ) → count n xs ≡ count n us) →
    ((n : ℕ) → count n ys ≡ count n zs) → number_excess xs ys ≡ number_excess us zs
excess_permuted xs us ys zs h k =
    let limit = limit_of xs + limit_of us in
    excess_is_below xs ys limit (omega arith) ∙ below_same (difference xs ys) (difference us zs) limit (λ n l. let a =
    h n in let b = k n in omega (arith, a, b)) ∙ sym (excess_is_below us zs limit (omega arith))

-- a number more, which the second list doesn't have
pub excess_first : (x : ℕ) (xs ys : List ℕ) → count x ys ≡ 0 → number_excess (x ∷ xs) ys ≡ number_excess xs ys + 1
excess_first x xs ys e =
    let limit = limit_of (x ∷ xs) in
    let p = below_point (difference (x ∷ xs) ys) (difference xs ys) x 1 limit (omega arith) elsewhere here in
    let a = excess_is_below (x ∷ xs) ys limit (omega arith) in
    let b = excess_is_below xs ys limit (omega arith) in omega (arith, a, p, b)
  where
    elsewhere : (n : ℕ) → (n ≡ x → ⊥) → difference (x ∷ xs) ys n ≡ difference xs ys n
    elsewhere n d = rw (ne_eqb n x d) (omega arith)

    here : difference (x ∷ xs) ys x ≡ difference xs ys x + 1
    here = rw (eq-eqb x x refl) (omega (arith, e))

-- one number more in both lists
pub excess_both : (x : ℕ) (xs ys : List ℕ) → number_excess (x ∷ xs) (x ∷ ys) ≡ number_excess xs ys
excess_both x xs ys =
    let limit = limit_of (x ∷ xs) in
    excess_is_below (x ∷ xs) (x ∷ ys) limit (omega arith)
    ∙ below_same (difference (x ∷ xs) (x ∷ ys)) (difference xs ys) limit (λ n l. omega arith)
    ∙ sym (excess_is_below xs ys limit (omega arith))

-- ---- the steps of the code, over lists in order
rises_drop : (k : ℕ) (xs : List ℕ) → Rises xs → Rises (drop k xs)
rises_drop zero xs r = r
rises_drop (suc k) [] r = tt
rises_drop (suc k) (x ∷ xs) r = rises_drop k xs r.1

module _ (there back : List ℕ) (rises_there : IsNonDecreasing there) (i next : ℕ) (l : i < length there) (after : ℕ)
    (counts : (n : ℕ) → get_or there i 0 ≤ n → count n (drop after back) ≡ count n (drop next back)) where
  abbrev number : ℕ
  number = get_or there i 0

  abbrev rest : List ℕ
  rest = drop (i + 1) there

  fronts : drop i there ≡ number ∷ rest
  fronts = drop_more there i 0 l

  ordered : Rises (number ∷ rest)
  ordered = subst Rises fronts (rises_drop i there (rises there rises_there))

  past : number_excess (drop i there) (drop next back) ≡ number_excess (number ∷ rest) (drop after back)
  past =
      ap (λ (xs : List ℕ). number_excess xs (drop next back)) fronts
      ∙ excess_same (number ∷ rest) (drop next back) (drop after back) (λ n m. by n m (cases_lt n number))
    where
      by : (n : ℕ) → 0 < count n (number ∷ rest) → (n < number) ⊎ (number ≤ n) → count n (drop next back) ≡ count n (drop after back)
      by n m (inl k) = absurd (let z = absent_below n number rest k ordered in omega (arith, m, z))
      by n m (inr k) = sym (counts n k)

  -- both lists go on with the same number
  pub excess_taken : after < length back → get_or back after 0 ≡ number →
      number_excess (drop i there) (drop next back) ≡ number_excess (drop (i + 1) there) (drop (after + 1) back)
  excess_taken m e =
      past ∙ ap (number_excess (number ∷ rest)) (drop_more back after 0 m ∙ ap (λ (n : ℕ). n ∷ drop (after + 1) back) e)
      ∙ excess_both number rest (drop (after + 1) back)

  -- the second list goes on with a greater number, or ends
  pub excess_left : IsNonDecreasing back → (after < length back → number < get_or back after 0) →
      number_excess (drop i there) (drop next back) ≡ number_excess (drop (i + 1) there) (drop after back) + 1
  excess_left rises_back h =
      past ∙ excess_first number rest (drop after back) (by (cases_lt after (length back)))
    where
      by : (after < length back) ⊎ (length back ≤ after) → count number (drop after back) ≡ 0
      by (inr m) = ap (count number) (drop_all after back m)
      by (inl m) =
          let e = drop_more back after 0 m in
          ap (count number) e ∙ absent_below number (get_or back after 0) (drop (after + 1) back) (h m)
          (subst Rises e (rises_drop after back (rises back rises_back)))

-- behind the end of the first list nothing is left
pub excess_end : (there back : List ℕ) (i next : ℕ) → length there ≤ i → number_excess (drop i there) (drop next back) ≡ 0
excess_end there back i next l =
    ap (λ (xs : List ℕ). number_excess xs (drop next back)) (drop_all i there l) ∙ excess_nothing (drop next back)
