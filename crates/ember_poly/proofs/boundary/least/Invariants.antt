use Rattle.ember_poly.proofs.OldestPlane.{LeastOf}
use Rattle.ember_poly.proofs.boundary.least.Given as goal

abbrev pub invariant-loop-i : goal.invariant-loop-i
invariant-loop-i l = LeastOf l.numbers l.i l.best
