use Rattle.ember_leaf.specs.Cutters.{AreSplit}
use Rattle.ember_leaf.proofs.RegionCuts.{cut_begun}
use Rattle.ember_leaf.proofs.Cutting.{chain_next, all_can_cut, can_cut_at}
use Rattle.ember_leaf.proofs.regions.regions.Goals as goal

pub loop-cutter-init : goal.loop-cutter-init
loop-cutter-init g c = cut_begun c.args.start c.new-list.ensures.items c.in_ok-push.ensures.items

pub split_all-requires : goal.split_all-requires
split_all-requires g c =
    all_can_cut _ c.args.start c.loop-cutter.list.items c.loop-cutter.invariant c.cutter-item.result
    (can_cut_at c.args.cutters.now c.args.start c.loop-cutter.cutter-index c.cutter-item.result
    c.loop-cutter-test.true c.cutter-item.is c.requires)

pub loop-cutter-preserved : goal.loop-cutter-preserved
loop-cutter-preserved g c =
    chain_next AreSplit c.args.cutters.now c.loop-cutter.cutter-index c.cutter-item.result _ _ _ c.loop-cutter-test.true
    c.cutter-item.is c.loop-cutter.invariant c.in_ok-list.ensures
