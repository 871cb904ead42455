use Rattle.std.proofs.Common.{List, subst}
use Rattle.std.specs.List.Sorted.{IsPermutation}
use Rattle.mesh_manifold.specs.declared.edges.HalfEdge.{HalfEdge}
use Rattle.mesh_manifold.proofs.edges.sorted_edges.Goals as goal

pub returns : goal.returns
returns c =
    subst (λ (es : List HalfEdge). IsPermutation es c.sort_unstable.new.self.items) c.in_ok-edges.ensures c.sort_unstable.ensures.permutation
