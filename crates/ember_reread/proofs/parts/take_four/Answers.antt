use Rattle.ember_reread.proofs.FieldTexts.{no_second, no_third, no_last}
use Rattle.ember_reread.proofs.parts.take_four.Goals as goal

pub returns-in_err-y : goal.returns-in_err-y
returns-in_err-y c = rw c.from_residual-in_err-y.ensures (no_second c.in_ok-x.ensures c.in_err-y.ensures)

pub returns-in_err-z : goal.returns-in_err-z
returns-in_err-z c =
    rw c.from_residual-in_err-z.ensures (no_third c.in_ok-x.ensures c.in_ok-y.ensures c.in_err-z.ensures)

pub returns-in_err-w : goal.returns-in_err-w
returns-in_err-w c =
    rw c.from_residual-in_err-w.ensures (no_last c.in_ok-x.ensures c.in_ok-y.ensures c.in_ok-z.ensures c.in_err-w.ensures)
