use Rattle.mesh_boolean.specs.Lying.{AreLyingCounts}
use Rattle.mesh_boolean.proofs.lying.lying_counts.Given as goal

abbrev pub invariant-loop-index : goal.invariant-loop-index
invariant-loop-index l = AreLyingCounts l.scene.tris l.index l.solid l.counts.items
