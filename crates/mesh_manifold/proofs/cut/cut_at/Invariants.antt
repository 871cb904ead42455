use Rattle.std.proofs.Common.{◌≡◌, map, take, flat_map}
use Rattle.mesh_write.specs.Vertices.Vertices.{over, IsMeshOf}
use Rattle.mesh_manifold.specs.Cuts.{pieces, origins_from}
use Rattle.mesh_manifold.proofs.cut.cut_at.Given as goal

abbrev pub invariant-loop-index : goal.invariant-loop-index
invariant-loop-index l =
    IsMeshOf (flat_map (pieces l.edges.edges.keys) (map (over l.vertices) (take l.index l.triangles))) l.cut.mesh
    × (l.cut.origins.items ≡ origins_from l.edges.edges.keys 0 (map (over l.vertices) (take l.index l.triangles)))
