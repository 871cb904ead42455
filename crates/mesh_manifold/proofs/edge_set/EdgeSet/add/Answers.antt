use Rattle.std.proofs.Common.{List, ap, ◌∙◌}
use Rattle.mesh_manifold.specs.declared.edge_set.PointEdge.{PointEdge}
use Rattle.mesh_manifold.specs.Cuts.{with_edge}
use Rattle.mesh_manifold.proofs.edge_set.EdgeSet.add.Goals as goal

pub returns : goal.returns
returns c =
    c.in_ok-insert-2.ensures.keys
    ∙ ap (λ (es : List PointEdge). with_edge es (record { from = c.args.v; to = c.args.u })) c.in_ok-insert.ensures.keys
