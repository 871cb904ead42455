use Rattle.std.proofs.Common.{◌≡◌, ◌*◌, ◌++◌, drop}
use Rattle.mesh_manifold.specs.Edges.{edges_from}
use Rattle.mesh_manifold.proofs.edges.all_edges.Given as goal

abbrev pub invariant-loop-index : goal.invariant-loop-index
invariant-loop-index l = l.edges.items ++ edges_from (3 * l.index) (drop l.index l.triangles) ≡ edges_from 0 l.triangles
