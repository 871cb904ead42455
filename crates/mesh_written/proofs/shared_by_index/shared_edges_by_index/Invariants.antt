use Rattle.std.proofs.Common.{nat_lt, map, take}
use Rattle.mesh_written.specs.Closed.{indices_of}
use Rattle.mesh_written.specs.Shared.{index_edge, same_edge, rising_edges, AreNoted}
use Rattle.mesh_written.proofs.shared_by_index.shared_edges_by_index.Given as goal

abbrev pub invariant-loop-t : goal.invariant-loop-t
invariant-loop-t l =
    AreNoted same_edge (rising_edges nat_lt index_edge (map indices_of (take l.t-index l.triangles))) l.edges.once.keys l.edges.again.keys
