use Rattle.std.proofs.Common.{◌≤◌, length}
use Rattle.mesh_sources.specs.Nodes.{AreBoundsWithin, AreBoundsFrom}
use Rattle.mesh_sources.proofs.nodes.joined_from.Given as goal

abbrev pub invariant-loop-end : goal.invariant-loop-end
invariant-loop-end l =
    record {
      own : AreBoundsWithin l.fn.own l.bounds;
      from : AreBoundsFrom l.nodes l.end l.bounds;
      within : l.end ≤ length l.nodes;
    }

abbrev pub decreases-loop-end : goal.decreases-loop-end
decreases-loop-end l = l.end
