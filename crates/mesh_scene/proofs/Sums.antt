-- Sums over the elements of a list, each taken once
use Rattle.std.proofs.Common.{◌≡◌, ◌⊎◌, inl, inr, ℕ, zero, suc, ◌+◌, ◌<◌, ◌≤◌, cond, List, [], ◌∷◌, refl, sym, ap, ◌∙◌, arith, eqb, sum_by}
use Rattle.std.specs.List.{AllByRecursion}
use Rattle.std.proofs.lemmas.Bool.{cases_eq, cases_lt, ne_eqb, eq-eqb}
use Rattle.std.proofs.lemmas.List.Sums.{sum_by-cons}
use Rattle.ember_balance.specs.Counts.{count}
use Rattle.mesh_scene.specs.Scene.LooseEdges.{each_once}

-- ---- sums over all numbers below a limit
-- the sum of the values at all numbers below the limit
pub below : (ℕ → ℕ) → ℕ → ℕ
below f zero = 0
below f (suc n) = f n + below f n

-- functions with equal values have equal sums
pub below_same : (f g : ℕ → ℕ) (limit : ℕ) → ((n : ℕ) → n < limit → f n ≡ g n) → below f limit ≡ below g limit
unfolding below
below_same f g zero h = refl
below_same f g (suc n) h =
    let a = h n (omega arith) in
    let r = below_same f g n (λ k l. h k (omega (arith, l))) in omega (arith, a, r)

below_zero : (limit : ℕ) → below (λ n. 0) limit ≡ 0
unfolding below
below_zero zero = refl
below_zero (suc n) = let r = below_zero n in omega (arith, r)

-- functions whose values differ at one number only
pub below_point : (f g : ℕ → ℕ) (x d limit : ℕ) → x < limit → ((n : ℕ) → (n ≡ x → ⊥) → f n ≡ g n) → f x ≡ g x + d → below f limit ≡ below g limit + d
unfolding below
below_point f g x d zero l h e = absurd (omega (arith, l))
below_point f g x d (suc n) l h e =
    by (cases_eq n x) (λ m. below_point f g x d n m h e) (cases_lt x n)
  where
    by : (n ≡ x) ⊎ (n ≡ x → ⊥) → (x < n → below f n ≡ below g n + d) → (x < n) ⊎ (n ≤ x) → f n + below f n ≡ g n + below g n + d
    by (inl p) k o =
        let a : f n ≡ g n + d = ap f p ∙ e ∙ ap (λ (m : ℕ). g m + d) (sym p) in
        let r = below_same f g n (λ j m. h j (λ q. omega (arith, m, p, q))) in omega (arith, a, r)
    by (inr q) k (inl m) = let a = h n q in let r = k m in omega (arith, a, r)
    by (inr q) k (inr m) = absurd (q (omega (arith, l, m)))

-- ---- as sums over a list
-- the number, but 0 for an element that doesn't occur
abbrev pub gated : ℕ → ℕ → ℕ
gated zero v = 0
gated (suc k) v = v

module _ (f : ℕ → ℕ) (x : ℕ) (xs : List ℕ) where
  abbrev with_x : ℕ → ℕ
  with_x n = gated (cond (eqb n x) 1 0 + count n xs) (f n)

  abbrev without_x : ℕ → ℕ
  without_x n = gated (count n xs) (f n)

  elsewhere : (n : ℕ) → (n ≡ x → ⊥) → with_x n ≡ without_x n
  elsewhere n d =
      let e : cond (eqb n x) 1 0 + count n xs ≡ count n xs = rw (ne_eqb n x d) (omega arith) in
      ap (λ (k : ℕ). gated k (f n)) e

  here : with_x x ≡ f x
  here =
      let e : cond (eqb x x) 1 0 + count x xs ≡ suc (count x xs) = rw (eq-eqb x x refl) (omega arith) in
      ap (λ (k : ℕ). gated k (f x)) e

  first_time : (limit : ℕ) → x < limit → count x xs ≡ 0 → below with_x limit ≡ below without_x limit + f x
  first_time limit l e =
      let nothing : without_x x ≡ 0 = ap (λ (k : ℕ). gated k (f x)) e in
      below_point with_x without_x x (f x) limit l elsewhere (omega (arith, here, nothing))

  not_first : (limit k : ℕ) → count x xs ≡ suc k → below with_x limit ≡ below without_x limit
  not_first limit k e = below_same with_x without_x limit (λ n l. by n (cases_eq n x))
    where
      same : without_x x ≡ f x
      same = ap (λ (k : ℕ). gated k (f x)) e

      by : (n : ℕ) → (n ≡ x) ⊎ (n ≡ x → ⊥) → with_x n ≡ without_x n
      by n (inl p) = ap with_x p ∙ here ∙ sym same ∙ ap without_x (sym p)
      by n (inr q) = elsewhere n q

-- a sum over the elements of a list, each once, as a sum over all numbers below a limit
pub once_is_below : (f : ℕ → ℕ) (limit : ℕ) (xs : List ℕ) → AllByRecursion (λ n. n < limit) xs →
    sum_by f (each_once eqb xs) ≡ below (λ n. gated (count n xs) (f n)) limit
once_is_below f limit [] a = sym (below_zero limit)
once_is_below f limit (x ∷ xs) a = by (count x xs) refl (once_is_below f limit xs a.1)
  where
    by : (k : ℕ) → count x xs ≡ k → sum_by f (each_once eqb xs) ≡ below (without_x f x xs) limit →
        sum_by f (cond (eqb k 0) (x ∷ each_once eqb xs) (each_once eqb xs)) ≡ below (with_x f x xs) limit
    by zero e r =
        let s = sum_by-cons f x (each_once eqb xs) in
        let p = first_time f x xs limit a.0 e in omega (arith, s, r, p)
    by (suc k) e r =
        rw (ne_eqb (suc k) 0 (λ p. omega (arith, p))) (r ∙ sym (not_first f x xs limit k e))
