-- Ascending lists of places, and the pairs of their members.
use Rattle.std.proofs.Common.{◌≡◌, ◌⊎◌, ⊎_elim, inl, inr, ℕ, zero, suc, ◌+◌, ◌<◌, ◌≤◌, refl, sym, ap, subst, arith}
use Rattle.std.proofs.Common.{Bool, true, false, cond, List, [], ◌∷◌, ◌++◌, filter}
use Rattle.std.specs.List.{range_with_len}
use Rattle.std.proofs.lemmas.Bool.{cases_lt}
use Rattle.ember_model.proofs.SignTests.{In}
use Rattle.ember_job.proofs.Members.{in_append_left, in_append_right, in_append_out}
use Rattle.ember_pairs.specs.declared.pair.Pair.{Pair}
use Rattle.ember_pairs.specs.Pairs.{pair, row, pairs_of}
use Rattle.ember_pairs.proofs.Members.{in_map, Image, in_map_out, in_filter_out}

-- each number is below all later ones
abbrev pub Ascending : List ℕ → Type 0
Ascending [] = Unit {0}
Ascending (i ∷ is) = ((j : ℕ) → In j is → i < j) × Ascending is

-- a number of a range is within its bounds
pub in_range_out : (a n j : ℕ) → In j (range_with_len a n) → (a ≤ j) × (j < a + n)
in_range_out a zero j m = absurd m
in_range_out a (suc n) j (inl e) = (omega (arith, e), omega (arith, e))
in_range_out a (suc n) j (inr m) = let r = in_range_out (a + 1) n j m in (omega (arith, r.0), omega (arith, r.1))

-- a number within the bounds is one of the range
pub in_range : (a n j : ℕ) → a ≤ j → j < a + n → In j (range_with_len a n)
in_range a zero j l h = absurd (omega arith)
in_range a (suc n) j l h =
    ⊎_elim (λ s. inr (in_range (a + 1) n j (omega (arith, s)) (omega (arith, h)))) (λ e. inl (omega (arith, e, l))) (cases_lt a j)

-- consecutive numbers ascend
pub range_ascending : (a n : ℕ) → Ascending (range_with_len a n)
range_ascending a zero = tt
range_ascending a (suc n) =
    ((λ j m. let r = in_range_out (a + 1) n j m in omega (arith, r.0)), range_ascending (a + 1) n)

-- an ascending list stays ascending if members are left out
pub filter_ascending : (p : ℕ → Bool) (is : List ℕ) → Ascending is → Ascending (filter p is)
filter_ascending p [] a = tt
filter_ascending p (i ∷ is) a = by (p i) (filter_ascending p is a.1)
  where
    by : (t : Bool) → Ascending (filter p is) → Ascending (cond t (i ∷ filter p is) (filter p is))
    by true h = ((λ j m. a.0 j (in_filter_out p j is m)), h)
    by false h = h

-- ---- pairs of members
pub pair_in : (is : List ℕ) (i j : ℕ) → Ascending is → In i is → In j is → i < j → In (pair i j) (pairs_of is)
pair_in [] i j a mi mj l = absurd mi
pair_in (k ∷ is) i j a (inl e) (inl d) l = absurd (omega (arith, e, d, l))
pair_in (k ∷ is) i j a (inl e) (inr m) l =
    in_append_left (pair i j) (row k is) (pairs_of is) (subst (λ n. In (pair n j) (row k is)) (sym e) (in_map (λ n. pair k n) j is m))
pair_in (k ∷ is) i j a (inr m) (inl d) l = absurd (omega (arith, a.0 i m, d, l))
pair_in (k ∷ is) i j a (inr m) (inr n) l =
    in_append_right (pair i j) (row k is) (pairs_of is) (pair_in is i j a.1 m n l)

pub record PairOf (is : List ℕ) (p : Pair) : Type 0 where
  pub low : In p.low is
  pub high : In p.high is
  pub less : p.low < p.high

-- a pair of an ascending list is of two of its numbers, in order
pub pair_out : (is : List ℕ) (p : Pair) → Ascending is → In p (pairs_of is) → PairOf is p
pair_out [] p a m = absurd m
pair_out (k ∷ is) p a m =
    ⊎_elim (λ r. first (in_map_out (λ n. pair k n) p is r)) (λ r. later (pair_out is p a.1 r)) (in_append_out p (row k is) (pairs_of is) m)
  where
    first : Image (λ n. pair k n) is p → PairOf (k ∷ is) p
    first r =
        subst (λ (q : Pair). PairOf (k ∷ is) q) (sym r.is) (record { low = inl refl; high = inr r.member; less = a.0 r.of r.member })

    later : PairOf is p → PairOf (k ∷ is) p
    later r = record { low = inr r.low; high = inr r.high; less = r.less }

-- ---- their order
abbrev pub Precedes : Pair → Pair → Type 0
Precedes p q = (p.low < q.low) ⊎ ((p.low ≡ q.low) × (p.high < q.high))

-- of two pairs, one at most precedes the other
pub precedes_not : (p q : Pair) → Precedes p q → Precedes q p → ⊥
precedes_not p q (inl a) (inl b) = omega (arith, a, b)
precedes_not p q (inl a) (inr b) = omega (arith, a, b.0)
precedes_not p q (inr a) (inl b) = omega (arith, a.0, b)
precedes_not p q (inr a) (inr b) = omega (arith, a.1, b.1)

-- no pair precedes itself
pub precedes_itself : (p q : Pair) → p ≡ q → Precedes p q → ⊥
precedes_itself p q e (inl a) = omega (arith, a, ap (λ (x : Pair). x.low) e)
precedes_itself p q e (inr a) = omega (arith, a.1, ap (λ (x : Pair). x.high) e)

abbrev pub Sorted : List Pair → Type 0
Sorted [] = Unit {0}
Sorted (p ∷ ps) = ((q : Pair) → In q ps → Precedes p q) × Sorted ps

sorted_append : (ps qs : List Pair) → Sorted ps → Sorted qs → ((p q : Pair) → In p ps → In q qs → Precedes p q) → Sorted (ps ++ qs)
sorted_append [] qs s t f = t
sorted_append (p ∷ ps) qs s t f =
    ((λ q m. ⊎_elim (λ l. s.0 q l) (λ r. f p q (inl refl) r) (in_append_out q ps qs m)), sorted_append ps qs s.1 t (λ x q m n. f x q (inr m) n))

row_sorted : (k : ℕ) (is : List ℕ) → Ascending is → Sorted (row k is)
row_sorted k [] a = tt
row_sorted k (i ∷ is) a = (
  (λ q m. let r = in_map_out (λ n. pair k n) q is m in
      subst (λ (x : Pair). Precedes (pair k i) x) (sym r.is) (inr (refl, a.0 r.of r.member))),
  row_sorted k is a.1,
)

-- the pairs of an ascending list are sorted
pub pairs_sorted : (is : List ℕ) → Ascending is → Sorted (pairs_of is)
pairs_sorted [] a = tt
pairs_sorted (k ∷ is) a =
    sorted_append (row k is) (pairs_of is) (row_sorted k is a.1) (pairs_sorted is a.1) (λ p q m n. let r =
    in_map_out (λ j. pair k j) p is m in let s = pair_out is q a.1 n in
    subst (λ (x : Pair). Precedes x q) (sym r.is) (inl (a.0 q.low s.low)))
