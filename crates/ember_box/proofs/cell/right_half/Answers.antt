use Rattle.std.proofs.Common.{◌<◌, ap, ◌∙◌, sym, subst, arith}
use Rattle.ember_box.specs.Boxes.{Cell, IsCell, cell_of, right_half}
use Rattle.ember_box.proofs.HalfCells.{is_upper, right_is_cell, low_small, sum_fits, sum_stored}
use Rattle.ember_box.proofs.cell.right_half.Goals as goal

pub overflow_add-at : goal.overflow_add-at
overflow_add-at c = sum_fits (low_small c.c.inside.lo c.c.inside.log c.c.inside.path c.args.k
    c.axis_index-i.ensures.axis_index c.c.invariant) c.side_of.ensures.small

pub invariant_of-result : goal.invariant_of-result
invariant_of-result c = rw (
  sum_stored (low_small c.c.inside.lo c.c.inside.log c.c.inside.path c.args.k
      c.axis_index-i.ensures.axis_index c.c.invariant) c.side_of.ensures.small,
  c.side_of.ensures.value,
  c.axis_index-i.ensures.axis_index,
) (subst IsCell
    (sym (is_upper c.c.inside.lo c.c.inside.log c.c.inside.path c.args.k (omega arith) (omega arith)))
    (right_is_cell (cell_of c.c.inside.lo c.c.inside.log c.c.inside.path) c.args.k
    (subst (λ (x : Cell). 0 < x.log c.args.k) (sym c.c.view_is) c.requires) c.c.invariant))

pub returns : goal.returns
returns c = rw (
  sum_stored (low_small c.c.inside.lo c.c.inside.log c.c.inside.path c.args.k
      c.axis_index-i.ensures.axis_index c.c.invariant) c.side_of.ensures.small,
  c.side_of.ensures.value,
  c.axis_index-i.ensures.axis_index,
) (is_upper c.c.inside.lo c.c.inside.log c.c.inside.path c.args.k (omega arith)
    (omega arith) ∙ ap (λ x. right_half x c.args.k) c.c.view_is)
