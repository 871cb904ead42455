use Rattle.std.proofs.Common.{length}
use Rattle.mesh_triangles.specs.Walks.{AddsBoundary}
use Rattle.mesh_triangles.proofs.boundaries.boundaries_of.Given as goal

abbrev pub invariant-loop-first : goal.invariant-loop-first
invariant-loop-first l = AddsBoundary l.boundaries.segments.items l.rest l.by_line

abbrev pub decreases-loop-first : goal.decreases-loop-first
decreases-loop-first l = length l.rest
