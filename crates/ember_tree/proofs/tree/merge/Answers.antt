use Rattle.std.proofs.Common.{rules, ◌++◌, map, reverse, sym, ap, ◌∙◌, arith}
use Rattle.std.proofs.lemmas.List.{append-nil, reverse-reverse}
use Rattle.std.proofs.lemmas.List.Sorted.{IsNonDecreasingBy-from_sort_by_key}
use Rattle.ember_tree.proofs.SortKeys.{nothing_left}
use Rattle.ember_tree.specs.Order.{tree_key}
use Rattle.ember_tree.proofs.tree.merge.Goals as goal

pub returns : goal.returns
returns g c = record {
  sorted = c.sort_by_key.new.self.items;
  same = c.in_ok-sort_by_key.ensures.permutation;
  ascends = IsNonDecreasingBy-from_sort_by_key (λ p. tree_key p.path) _ c.in_ok-sort_by_key.ensures.sorted (λ a r q k. search rules);
  are = sym (append-nil c.loop-part.items.items)
      ∙ ap (λ xs. c.loop-part.items.items ++ map (λ p. p.item) (reverse xs))
      (sym (nothing_left c.loop-part.sorted.items c.pop.new.self.items c.in_default.ensures.items
      (omega (arith, c.in_default.ensures.cases.1)))) ∙ c.loop-part.invariant.are
      ∙ ap (λ xs. map (λ p. p.item) (reverse xs)) c.reverse.ensures.items
      ∙ ap (map (λ p. p.item)) (reverse-reverse c.sort_by_key.new.self.items);
}
