use Rattle.std.proofs.Common.{◌≡◌, map, take}
use Rattle.mesh_write.specs.Vertices.Vertices.{point_at}
use Rattle.mesh_manifold.proofs.split.points_of.Given as goal

abbrev pub invariant-loop-origin : goal.invariant-loop-origin
invariant-loop-origin l = l.points.items ≡ map (point_at l.vertices) (take l.origin-index l.origins)
