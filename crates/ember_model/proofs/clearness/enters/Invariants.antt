use Rattle.std.proofs.Common.{◌≡◌, false, take}
use Rattle.std.specs.List.{list_any}
use Rattle.ember_model.specs.ClearTest.{is_entry}
use Rattle.ember_model.proofs.clearness.enters.Given as goal

-- no plane so far is one of entry
abbrev pub invariant-loop-edge : goal.invariant-loop-edge
invariant-loop-edge l = list_any (is_entry l.edges l.a l.p) (take l.edge-index l.edges) ≡ false
