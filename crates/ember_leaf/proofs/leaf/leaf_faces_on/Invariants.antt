use Rattle.std.specs.List.{range_with_len}
use Rattle.ember_algebra.specs.Relations.{Each}
use Rattle.ember_expr.specs.Formula.{formula_of}
use Rattle.ember_box.specs.Boxes.{in_steps}
use Rattle.ember_leaf.specs.KeptRegions.{ArePlacedBelow, tris_of}
use Rattle.ember_leaf.specs.Written.{IsWrittenOf, WhereFitsWithin}
use Rattle.ember_leaf.proofs.leaf.leaf_faces_on.Given as goal

abbrev pub invariant-loop-i : goal.invariant-loop-i
invariant-loop-i g l =
    ArePlacedBelow (tris_of l.leaf.near.now) l.i l.kept.items × WhereFitsWithin g.W.Width.corner g.W.Width.fine (tris_of l.leaf.near.now) (in_steps g.W.Width.scale l.leaf.cell.now)
    l.leaf.windings.now.counts (λ scene. Each (IsWrittenOf scene (formula_of l.leaf.expr.now) (in_steps g.W.Width.scale l.leaf.cell.now)
    (tris_of l.leaf.near.now)) (range_with_len 0 l.i)) l.kept.items
