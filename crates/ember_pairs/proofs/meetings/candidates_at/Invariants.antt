use Rattle.std.proofs.Common.{◌≡◌, take}
use Rattle.ember_pairs.specs.Candidates.{candidates_at}
use Rattle.ember_pairs.proofs.meetings.candidates_at.Given as goal

abbrev pub invariant-loop-i : goal.invariant-loop-i
invariant-loop-i l = l.candidates.items ≡ candidates_at l.tris (take l.i-index l.list)
