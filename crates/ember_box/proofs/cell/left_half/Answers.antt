use Rattle.std.proofs.Common.{◌<◌, sym, subst, arith}
use Rattle.ember_box.specs.Boxes.{Cell, IsCell, cell_of}
use Rattle.ember_box.proofs.HalfCells.{is_lower, left_is_cell}
use Rattle.ember_box.proofs.cell.left_half.Goals as goal

pub invariant_of-result : goal.invariant_of-result
invariant_of-result c = rw c.axis_index-i.ensures.axis_index
    (subst IsCell (sym (is_lower c.c.inside.lo c.c.inside.log c.c.inside.path c.args.k (omega arith)))
    (left_is_cell (cell_of c.c.inside.lo c.c.inside.log c.c.inside.path) c.args.k
    (subst (λ (x : Cell). 0 < x.log c.args.k) (sym c.c.view_is) c.requires) c.c.invariant))
