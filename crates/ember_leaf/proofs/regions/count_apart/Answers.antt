use Rattle.ember_algebra.specs.Relations.{none}
use Rattle.ember_leaf.proofs.RegionCuts.{not_met, whole_more}
use Rattle.ember_leaf.proofs.Pieces.{unmet_left}
use Rattle.ember_leaf.proofs.regions.count_apart.Goals as goal

pub loop-i-init : goal.loop-i-init
loop-i-init g c = none

pub loop-i-preserved : goal.loop-i-preserved
loop-i-preserved g c =
    whole_more c.args.cutter.now c.args.list.now c.loop-i.i c.index-list-i.result c.loop-i-test.true c.index-list-i.is
    c.loop-i.invariant (unmet_left c.args.cutter.now c.index-list-i.result
    (not_met c.is_met.ensures c.if-is_met.false))
