use Rattle.std.proofs.Common.{◌≡◌, ◌+◌, ◌≤◌, ◌++◌, map, reverse, vec_len, vec_capacity}
use Rattle.ember_tree.proofs.tree.merge.Given as goal

abbrev pub invariant-loop-part : goal.invariant-loop-part
invariant-loop-part g l = record {
  room : vec_len l.items + vec_len l.sorted ≤ vec_capacity l.items;
  are : l.items.items ++ map (λ p. p.item) (reverse l.sorted.items) ≡ map (λ p. p.item) (reverse l.initial.sorted.items);
}

abbrev pub decreases-loop-part : goal.decreases-loop-part
decreases-loop-part g l = vec_len l.sorted
