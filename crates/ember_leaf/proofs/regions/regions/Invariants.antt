use Rattle.std.proofs.Common.{[], ◌∷◌, take}
use Rattle.ember_leaf.specs.Cutters.{AreCut}
use Rattle.ember_leaf.proofs.regions.regions.Given as goal

abbrev pub invariant-loop-cutter : goal.invariant-loop-cutter
invariant-loop-cutter g l = AreCut (take l.cutter-index l.cutters) (l.fn.start ∷ []) l.list.items
