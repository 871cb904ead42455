use Rattle.std.proofs.Common.{◌↔◌, length, map}
use Rattle.ember_point.specs.Points.{spot_of}
use Rattle.ember_reread.specs.Cornered.{edge_of}
use Rattle.mesh_solid.specs.Outline.Rounds.{HasEdgeOff}
use Rattle.mesh_solid.proofs.outline.edges.has_edge_off.Given as goal

abbrev pub invariant-loop-edge : goal.invariant-loop-edge
invariant-loop-edge l =
    HasEdgeOff (spot_of l.last) (map edge_of l.edges) ↔ HasEdgeOff (spot_of l.last) (map edge_of l.rest)

abbrev pub decreases-loop-edge : goal.decreases-loop-edge
decreases-loop-edge l = length l.rest
