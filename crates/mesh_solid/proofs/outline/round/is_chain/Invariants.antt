use Rattle.std.proofs.Common.{◌↔◌, length, map}
use Rattle.ember_poly.specs.Rings.{IsSideChain}
use Rattle.mesh_solid.specs.Outline.Sides.{side_at}
use Rattle.mesh_solid.proofs.outline.round.is_chain.Given as goal

abbrev pub invariant-loop-edge : goal.invariant-loop-edge
invariant-loop-edge l =
    IsSideChain l.support l.first.plane (map side_at l.others) ↔ IsSideChain l.support l.before.plane (map side_at l.rest)

abbrev pub decreases-loop-edge : goal.decreases-loop-edge
decreases-loop-edge l = length l.rest
