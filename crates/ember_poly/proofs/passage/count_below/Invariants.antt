use Rattle.std.proofs.Common.{◌≡◌, true, take}
use Rattle.std.specs.List.{AllByRecursion}
use Rattle.ember_poly.specs.Passages.{is_under}
use Rattle.ember_poly.proofs.passage.count_below.Given as goal

abbrev pub invariant-loop-i : goal.invariant-loop-i
invariant-loop-i g l = AllByRecursion (λ m. is_under g.W.Width.spot l.p m ≡ true) (take l.i l.corners)
