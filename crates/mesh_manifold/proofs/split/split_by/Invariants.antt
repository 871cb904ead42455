use Rattle.std.proofs.Common.{take}
use Rattle.mesh_manifold.specs.Splits.{AreSplitOf}
use Rattle.mesh_manifold.proofs.split.split_by.Given as goal

abbrev pub invariant-loop-index : goal.invariant-loop-index
invariant-loop-index l = AreSplitOf l.mesh (take l.index l.triangles)
