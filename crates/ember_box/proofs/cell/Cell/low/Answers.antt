use Rattle.std.proofs.Common.{ℤ, sym, subst, to_z-of_z}
use mir.Syntax.{w32}
use Rattle.ember_algebra.specs.Size.{Small}
use Rattle.ember_algebra.proofs.Size.{fits_small}
use Rattle.ember_box.proofs.HalfCells.{cell_side_is_small}
use Rattle.ember_box.proofs.cell.Cell.low.Goals as goal

pub returns-clause-small : goal.returns-clause-small
returns-clause-small c =
    let s = (cell_side_is_small c.self.inside.lo c.self.inside.log c.self.inside.path c.args.axis c.self.invariant).0 in
    rw c.axis_index.ensures.axis_index (subst (λ (z : ℤ). Small 2048 z) (sym (to_z-of_z (fits_small w32 s tt))) s)
