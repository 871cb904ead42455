use Rattle.std.proofs.Common.{◌≡◌, true, List, [], ◌++◌}
use Rattle.std.specs.Vec.Iter.{into_iter_items}
use Rattle.ember_model.specs.declared.face.Face.{Face}
use Rattle.ember_leaf.specs.Cutters.{AreSplit}
use Rattle.ember_leaf.proofs.regions.add_all.Given as goal

abbrev pub invariant-loop-r : goal.invariant-loop-r
invariant-loop-r g l =
    ((front : List Face) → AreSplit l.cutter front l.fn.out.items →
    AreSplit l.cutter (front ++ l.yielded) l.out.items) × (l.is_first ≡ true →
    l.yielded ≡ []) × (l.yielded ++ into_iter_items l.r-iterator ≡ into_iter_items l.initial.r-iterator)
