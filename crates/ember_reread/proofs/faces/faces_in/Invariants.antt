use Rattle.std.proofs.Common.{length}
use Rattle.ember_reread.specs.Lines.{HasFaces}
use Rattle.ember_reread.proofs.faces.faces_in.Given as goal

abbrev pub invariant-loop-alloc : goal.invariant-loop-alloc
invariant-loop-alloc l = HasFaces l.faces.items l.bytes l.rest

abbrev pub decreases-loop-alloc : goal.decreases-loop-alloc
decreases-loop-alloc l = length l.rest
