use Rattle.std.proofs.Common.{◌≡◌, take}
use Rattle.ember_pairs.specs.Candidates.{not_flat}
use Rattle.ember_pairs.proofs.meetings.not_flat.Given as goal

abbrev pub invariant-loop-i : goal.invariant-loop-i
invariant-loop-i l = l.found.items ≡ not_flat l.tris (take l.i-index l.list)
