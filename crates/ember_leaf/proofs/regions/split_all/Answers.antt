use Rattle.std.proofs.Common.{◌∙◌, arith, sym, subst, ap, take, drop, All}
use Rattle.ember_leaf.specs.Cutters.{AreSplit, CanCut, MeetsFirst}
use Rattle.ember_leaf.proofs.Cutting.{all_drop}
use Rattle.ember_leaf.proofs.RegionCuts.{split_front, split_none}
use Rattle.ember_leaf.proofs.regions.split_all.Goals.{then-index-len+in_ok-others+in_ok-add_all, else-index-len}
use Rattle.ember_leaf.proofs.regions.split_all.Goals as goal

pub add_all-requires-clause-met : goal.add_all-requires-clause-met
add_all-requires-clause-met g c =
    subst (MeetsFirst c.args.cutter.now) (ap (drop c.count_apart-index.result) c.deref.ensures.value
    ∙ sym c.in_ok-others.ensures.tail) c.count_apart-index.ensures.met

pub add_all-requires-clause-may_cut : goal.add_all-requires-clause-may_cut
add_all-requires-clause-may_cut g c =
    let can = CanCut c.args.cutter.now in
    subst (All can) (sym c.in_ok-others.ensures.tail) (all_drop can c.count_apart-index.result c.args.list.items c.requires)

pub returns : goal.returns
returns g c =
    let fs = c.args.list.items in let b = c.args.cutter.now in let k = c.count_apart-index.result in
    let whole = subst (λ l. AreSplit b (take k l) (take k l)) c.deref.ensures.value c.count_apart-index.ensures.whole in
    elim c.if-index-len.branch [
      | then-index-len+in_ok-others+in_ok-add_all w ↦ subst (λ o. AreSplit b fs o.items) (sym w.out-is)
          (split_front b k fs w.in_ok-others.ensures.items w.in_ok-others.ensures.tail whole w.in_ok-add_all.ensures)
      | else-index-len w ↦ subst (λ o. AreSplit b fs o.items) (sym w.out-is) (split_none b k fs (let q = w.if-index-len.false in omega (arith, q)) whole)
    ]
