use Rattle.std.proofs.Common.{◌≡◌, map, take}
use Rattle.ember_reread.specs.declared.cornered_face.CorneredEdge.{CorneredEdge}
use Rattle.ember_reread.proofs.cornered_face.CorneredFace.face.Given as goal

abbrev pub invariant-loop-edge : goal.invariant-loop-edge
invariant-loop-edge l = l.planes.items ≡ map (λ (e : CorneredEdge). e.plane) (take l.edge-index l.self.edges.items)
