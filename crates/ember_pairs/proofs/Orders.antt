-- Pairs in their order: sorted, and each once.
use Rattle.std.proofs.Common.{◌≡◌, ◌&&◌, ◌==◌, Bool, true, List, IsPermutation, IsSorted}
use Rattle.std.specs.List.{dedup}
use Rattle.std.specs.Ordering.{nat_cmp, eq_by_cmp}
use Rattle.std.specs.Cmp.{IsTotalOrder, IsEquivalence, nat_cmp_total, on_total, then_total, unsigned_ties, both_tied, nat_eq_equiv, on_equiv, and_equiv}
use Rattle.std.proofs.lemmas.Bool.{and_parts, eqb-true}
use Rattle.std.proofs.lemmas.List.Kept.{Contains-dedup, Contains-from_dedup, IsStrictlySortedBy-dedup}
use Rattle.std.proofs.lemmas.List.Sorted.{Contains-permutation, IsPermutation-sym}
use Rattle.ember_pairs.specs.declared.pair.Pair.{Pair}
use Rattle.ember_pairs.specs.Gathering.{pair_order, together, AreGathered}

abbrev pub same_pair : Pair → Pair → Bool
same_pair p q = p.low == q.low && p.high == q.high

total_order : IsTotalOrder pair_order
total_order = then_total (on_total (λ (p : Pair). p.low) nat_cmp_total) (on_total (λ (p : Pair). p.high) nat_cmp_total)

equivalence : IsEquivalence same_pair
equivalence = and_equiv (on_equiv (λ (p : Pair). p.low) nat_eq_equiv) (on_equiv (λ (p : Pair). p.high) nat_eq_equiv)

ties : (p q : Pair) → same_pair p q ≡ eq_by_cmp pair_order p q
ties p q =
    both_tied (p.low == q.low) (p.high == q.high) (nat_cmp p.low q.low) (nat_cmp p.high q.high) (unsigned_ties p.low q.low) (unsigned_ties p.high q.high)

same : (p q : Pair) → same_pair p q ≡ true → p ≡ q
same p q e =
    let r = and_parts (p.low == q.low) (p.high == q.high) e in
    let l = eqb-true p.low q.low r.0 in let h = eqb-true p.high q.high r.1 in
    λ i. record { low = l i; high = h i }

-- a sorted list without its repetitions
pub sorted_pairs_are_gathered : (items : List (List Pair)) (sorted : List Pair) →
    IsPermutation (together items) sorted → IsSorted pair_order sorted → AreGathered items (dedup same_pair sorted)
sorted_pairs_are_gathered items sorted moved ordered =
    record {
      in_order = IsStrictlySortedBy-dedup total_order ties sorted ordered;
      same = λ p. (
        λ h. Contains-permutation sorted (together items) p (IsPermutation-sym (together items) sorted moved)
            (Contains-from_dedup same_pair sorted p h),
        λ h. Contains-dedup equivalence same sorted p (Contains-permutation (together items) sorted p moved h),
      );
    }
