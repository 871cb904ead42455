use Rattle.std.proofs.Common.{◌++◌, ◌∷◌, [], ◌∙◌}
use Rattle.mesh_manifold.proofs.EdgeLists.{three_pushed}
use Rattle.mesh_manifold.proofs.edges.push_edges.Goals as goal

pub returns : goal.returns
returns c =
    three_pushed c.args.edges.now.items _ _ _ _ _ _ c.in_ok-push.ensures.items c.in_ok-push-2.ensures.items c.in_ok-push-3.ensures.items
    ∙ (λ i. c.args.edges.now.items ++ c.half_edge.ensures i ∷ c.half_edge-2.ensures i ∷ c.half_edge-3.ensures i ∷ [])
