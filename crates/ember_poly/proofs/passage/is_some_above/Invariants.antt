use Rattle.std.proofs.Common.{take}
use Rattle.std.specs.List.{AllByRecursion}
use Rattle.ember_poly.specs.Rings.{IsNotAbove}
use Rattle.ember_poly.proofs.passage.is_some_above.Given as goal

abbrev pub invariant-loop-i : goal.invariant-loop-i
invariant-loop-i g l = AllByRecursion (λ m. IsNotAbove l.p (g.W.Width.spot m)) (take l.i l.corners)
