use Rattle.std.proofs.Common.{◌≡◌, ◌+◌, ◌++◌}
use Rattle.std.specs.Vec.Iter.{into_iter_items}
use Rattle.ember_algebra.specs.Relations.{Each}
use Rattle.ember_expr.specs.Formula.{formula_of}
use Rattle.ember_box.specs.Boxes.{in_steps}
use Rattle.ember_leaf.specs.KeptRegions.{ArePlacedBelow, tris_of}
use Rattle.ember_leaf.specs.Written.{IsWrittenOfRegion, WhereFitsWithin, HasGrown}
use Rattle.ember_leaf.proofs.leaf.Leaf.add_written.Given as goal

abbrev pub invariant-loop-ring : goal.invariant-loop-ring
invariant-loop-ring g l =
    ArePlacedBelow (tris_of l.self.near.now) (l.i + 1) l.kept.items × HasGrown
    (WhereFitsWithin g.W.Width.corner g.W.Width.fine (tris_of l.self.near.now) (in_steps g.W.Width.scale l.self.cell.now) l.self.windings.now.counts
    (λ scene. Each (IsWrittenOfRegion scene (formula_of l.self.expr.now) (tris_of l.self.near.now) l.i) l.yielded))
    l.fn.kept.items l.kept.items × (l.yielded ++ into_iter_items l.ring-iterator ≡ into_iter_items
    l.initial.ring-iterator)
