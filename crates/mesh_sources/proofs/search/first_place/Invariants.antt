use Rattle.std.proofs.Common.{◌≤◌, length}
use Rattle.mesh_sources.specs.Nodes.{IsFoundFrom}
use Rattle.mesh_sources.proofs.search.first_place.Given as goal

abbrev pub invariant-loop-end : goal.invariant-loop-end
invariant-loop-end l =
    record {
      found : IsFoundFrom l.nodes l.end l.facet l.found;
      within : l.end ≤ length l.nodes;
    }

abbrev pub decreases-loop-end : goal.decreases-loop-end
decreases-loop-end l = l.end
