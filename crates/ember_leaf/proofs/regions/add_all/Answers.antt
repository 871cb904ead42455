use Rattle.std.proofs.Common.{sym, ap, ◌∙◌, [], ◌∷◌, ◌++◌, append_assoc}
use Rattle.std.proofs.lemmas.Bool.{false≢true}
use Rattle.std.specs.Vec.Iter.{into_iter_items}
use Rattle.ember_model.proofs.SignTests.{clash}
use Rattle.ember_leaf.specs.Cutters.{AreLeftByCutter}
use Rattle.ember_leaf.proofs.RegionCuts.{test_iff_out, not_met, first_met, split_grows_list, grown_by_one}
use Rattle.ember_leaf.proofs.Pieces.{unmet_left}
use Rattle.ember_leaf.proofs.regions.add_all.Goals.{then-is_first, else-is_first}
use Rattle.ember_leaf.proofs.regions.add_all.Goals as goal

pub add_cut-requires-clause-met : goal.add_cut-requires-clause-met
add_cut-requires-clause-met g c =
    let at = c.loop-r in let all = ap (λ l. at.yielded ++ l) (sym c.in-Some.ensures.steps.0) ∙ at.invariant.2 in
    elim c.if-is_first.branch [
      | then-is_first w ↦ first_met c.args.cutter.now (into_iter_items c.next.new.self) c.requires.met
          (all ∙ c.into_iter-r-iterator.ensures.into_iter_gives.0) (at.invariant.1 w.if-is_first.true)
      | else-is_first w ↦ test_iff_out w.is_met-is_cut.ensures w.is_cut-is c.if-is_cut.true
    ]

pub loop-r-preserved-in-Continue-1 : goal.loop-r-preserved-in-Continue-1
loop-r-preserved-in-Continue-1 g c =
    let at = c.loop-r in let r = c.in-Some.r in (
      split_grows_list c.args.cutter.now c.args.out.now.items at.yielded r at.out.items c.add_cut.new.out.items
          at.invariant.0 c.in_ok-add_cut.ensures,
      λ e. absurd (false≢true e),
      append_assoc at.yielded (r ∷ []) (into_iter_items c.next.new.self)
          ∙ ap (λ l. at.yielded ++ l) (sym c.in-Some.ensures.steps.0) ∙ at.invariant.2,
    )

pub loop-r-preserved : goal.loop-r-preserved
loop-r-preserved g c =
    let b = c.args.cutter.now in let at = c.loop-r in let r = c.in-Some.r in
    let u : AreLeftByCutter b r (r ∷ []) = elim c.if-is_first.branch [
      | then-is_first w ↦ absurd (clash (w.is_cut-is ∙ w.if-is_first.true) c.if-is_cut.false)
      | else-is_first w ↦ unmet_left b r (not_met w.is_met-is_cut.ensures (sym w.is_cut-is ∙ c.if-is_cut.false))
    ] in (
      split_grows_list b c.args.out.now.items at.yielded r at.out.items c.push.new.self.items at.invariant.0
          (grown_by_one (AreLeftByCutter b r) r at.out.items c.push.new.self.items u c.in_ok-push.ensures.items),
      λ e. absurd (false≢true e),
      append_assoc at.yielded (r ∷ []) (into_iter_items c.next.new.self)
          ∙ ap (λ l. at.yielded ++ l) (sym c.in-Some.ensures.steps.0) ∙ at.invariant.2,
    )
