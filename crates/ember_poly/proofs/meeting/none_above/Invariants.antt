use Rattle.std.proofs.Common.{◌≡◌, true, take}
use Rattle.ember_model.specs.ClearTest.{none_positive}
use Rattle.ember_poly.proofs.meeting.none_above.Given as goal

abbrev pub invariant-loop-edge : goal.invariant-loop-edge
invariant-loop-edge g l = none_positive (take l.edge-index l.edges) (g.W.Width.spot l.m) ≡ true
