use Rattle.std.proofs.Common.{sym, ap, ◌∙◌}
use Rattle.mesh_manifold.specs.Paired.{is_paired}
use Rattle.mesh_manifold.proofs.split.has_two_each.Goals as goal

pub returns : goal.returns
returns c = λ told. record {
  edges = c.in_ok-edges.edges.items;
  all = c.in_ok-edges.ensures;
  paired = ap is_paired (sym c.deref.ensures.value) ∙ sym c.is_paired.ensures ∙ told;
}
