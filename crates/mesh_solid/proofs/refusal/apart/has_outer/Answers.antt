use Rattle.std.proofs.Common.{◌∙◌}
use Rattle.mesh_solid.specs.Refusal.Searches.{has_outer_edge}
use Rattle.mesh_solid.proofs.Searches.{outer_edges}
use Rattle.mesh_solid.proofs.refusal.apart.has_outer.Goals as goal

pub returns : goal.returns
returns c =
    c.has_outer_edge.ensures ∙ (λ i. has_outer_edge (c.deref.ensures.value i) (c.deref-2.ensures.value i))
    ∙ outer_edges c.args.first.now.edges.items c.args.second.now.edges.items
