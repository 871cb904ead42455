use Rattle.std.proofs.Common.{length, map}
use Rattle.ember_algebra.specs.Relations.{Chain}
use Rattle.ember_reread.specs.Cornered.{face_of}
use Rattle.ember_reread.specs.Lines.{IsFaceLines}
use Rattle.ember_reread.proofs.cornered.cornered_faces_in.Given as goal

abbrev pub invariant-loop-alloc : goal.invariant-loop-alloc
invariant-loop-alloc l = Chain IsFaceLines (map face_of l.faces.items) l.bytes l.rest

abbrev pub decreases-loop-alloc : goal.decreases-loop-alloc
decreases-loop-alloc l = length l.rest
