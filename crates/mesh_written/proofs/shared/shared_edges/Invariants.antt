use Rattle.std.proofs.Common.{map, take}
use Rattle.mesh_written.specs.Closed.{positions_of}
use Rattle.mesh_written.specs.Shared.{is_lower, key_between, same_ends, rising_edges, AreNoted}
use Rattle.mesh_written.proofs.shared.shared_edges.Given as goal

abbrev pub invariant-loop-t : goal.invariant-loop-t
invariant-loop-t l =
    AreNoted same_ends (rising_edges is_lower key_between (map positions_of (take l.t-index l.written))) l.edges.once.keys l.edges.again.keys
