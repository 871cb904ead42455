use Rattle.std.proofs.Common.{◌≡◌, length}
use Rattle.mesh_manifold.specs.Paired.{is_paired}
use Rattle.mesh_manifold.proofs.check.is_paired.Given as goal

abbrev pub invariant-loop-one : goal.invariant-loop-one
invariant-loop-one l = is_paired l.rest ≡ is_paired l.edges

abbrev pub decreases-loop-one : goal.decreases-loop-one
decreases-loop-one l = length l.rest
