use Rattle.ember_box.proofs.cell.halves.Goals as goal

pub returns : goal.returns
returns c = (c.left_half.ensures, c.right_half.ensures)
