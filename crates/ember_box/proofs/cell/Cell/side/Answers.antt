use Rattle.std.proofs.Common.{◌^◌, pos, sym, ap, ◌∙◌, slice_index_or}
use Rattle.ember_box.specs.Boxes.{side}
use Rattle.ember_box.proofs.HalfCells.{cell_side_is_small, log_of, side_stored}
use Rattle.ember_box.proofs.cell.Cell.side.Goals as goal

pub side_of-requires : goal.side_of-requires
side_of-requires c =
    rw c.axis_index.ensures.axis_index (cell_side_is_small c.self.inside.lo c.self.inside.log c.self.inside.path c.args.axis c.self.invariant).1

pub returns : goal.returns
returns c =
    side_stored c.side_of.ensures.small ∙ c.side_of.ensures.value
    ∙ ap (λ n. pos (2 ^ slice_index_or c.self.inside.log n 0)) c.axis_index.ensures.axis_index
    ∙ ap (λ n. pos (2 ^ n)) (sym (log_of c.self.inside.lo c.self.inside.log c.self.inside.path c.args.axis))
    ∙ ap (λ x. side x c.args.axis) c.self.view_is
