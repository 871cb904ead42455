use Rattle.std.proofs.Common.{◌∙◌, ap, arith, length, map}
use Rattle.std.proofs.lemmas.List.{take_all}
use Rattle.ember_reread.specs.declared.cornered_face.CorneredEdge.{CorneredEdge}
use Rattle.ember_reread.proofs.CorneredTexts.{planes_of_cornered}
use Rattle.ember_reread.proofs.cornered_face.CorneredFace.face.Goals as goal

pub returns : goal.returns
returns c =
    let es = c.args.self.now.edges.items in
    let all = take_all c.loop-edge.edge-index es (omega (arith, ap length c.deref-edge-items.ensures.value)) in
    let planes = c.of.ensures ∙ c.loop-edge.invariant ∙ ap (map (λ (e : CorneredEdge). e.plane)) all ∙ planes_of_cornered es in
    λ i. record { support = c.args.self.now.support; edges = planes i }
