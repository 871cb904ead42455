use Rattle.std.proofs.Common.{◌∙◌, List, IsPermutation, sym, ap, subst}
use Rattle.std.proofs.lemmas.List.Filters.{dedup_is}
use Rattle.ember_pairs.specs.declared.pair.Pair.{Pair}
use Rattle.ember_pairs.specs.Gathering.{together, AreGathered}
use Rattle.ember_pairs.proofs.Orders.{same_pair, sorted_pairs_are_gathered}
use Rattle.ember_pairs.proofs.gathering.gather.Goals as goal

pub returns : goal.returns
returns c =
    let items = c.args.items.items in let sorted = c.sort.new.self.items in
    let kept = dedup_is same_pair sorted c.dedup.new.self.items c.dedup.ensures.filtered in
    let moved = subst (λ (ps : List Pair). IsPermutation ps sorted)
    (c.in_ok-all.ensures ∙ ap together c.deref.ensures.value) c.in_ok-sort.ensures.permutation in
    subst (λ (ps : List Pair). AreGathered items ps) (sym (c.of.ensures ∙ kept)) (sorted_pairs_are_gathered items sorted moved c.in_ok-sort.ensures.sorted)
