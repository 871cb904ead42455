use Rattle.std.proofs.Common.{subst, List, ℕ}
use Rattle.std.specs.List.Sorted.{IsPermutation}
use Rattle.std.proofs.lemmas.List.Sorted.{IsNonDecreasingBy-from_sort}
use Rattle.ember_balance.proofs.loose.sorted_numbers.Goals as goal

pub returns : goal.returns
returns c = record {
  there = subst (λ (ns : List ℕ). IsPermutation ns c.sort_unstable.new.self.items) c.in_ok-numbers.ensures.there c.sort_unstable.ensures.permutation;
  back = subst (λ (ns : List ℕ). IsPermutation ns c.sort_unstable-2.new.self.items) c.in_ok-numbers.ensures.back c.sort_unstable-2.ensures.permutation;
  there_rises = IsNonDecreasingBy-from_sort (λ n. n) _ c.sort_unstable.ensures.sorted;
  back_rises = IsNonDecreasingBy-from_sort (λ n. n) _ c.sort_unstable-2.ensures.sorted;
}
