use Rattle.std.proofs.Common.{◌≡◌, map, take}
use Rattle.mesh_written.specs.Triangles.{triangle_at, kept}
use Rattle.mesh_written.proofs.triangles.triangles_over.Given as goal

abbrev pub invariant-loop-t : goal.invariant-loop-t
invariant-loop-t l = l.written.items ≡ kept (map (triangle_at l.planes l.points) (take l.t-index l.triangles))
