use Rattle.mesh_grid.specs.Snap.Spans.{AreEnds}
use Rattle.mesh_grid.proofs.snap.search.ends_of.Given as goal

abbrev pub invariant-loop-place : goal.invariant-loop-place
invariant-loop-place l = AreEnds l.numbers l.ends
