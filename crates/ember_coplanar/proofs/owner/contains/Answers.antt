use Rattle.ember_model.proofs.SignTests.{clash}
use Rattle.ember_model.proofs.PlaneSizes.{tri_within}
use Rattle.ember_width.proofs.TakenPlanes.{edge_taken}
use Rattle.ember_coplanar.proofs.Containing.{edge_at, below_edge, below_edges_is_contained}
use Rattle.ember_coplanar.proofs.owner.contains.Goals as goal

pub returns-then-is_below-2 : goal.returns-then-is_below-2
returns-then-is_below-2 g c =
    let t = c.args.t.now in
    let p = edge_at t 0 c.support_of.ensures.value c.main_axis-k.ensures c.edge_plane.ensures.value in
    let q = edge_at t 1 c.support_of.ensures.value c.main_axis-k.ensures c.edge_plane-then-is_below.ensures.value in
    let r = edge_at t 2 c.support_of.ensures.value c.main_axis-k.ensures c.edge_plane-then-is_below-2.ensures.value in (
      λ e. below_edges_is_contained t c.requires.plane p q r (c.is_below.ensures.0 c.if-is_below.true)
          (c.is_below-then-is_below.ensures.0 c.if-is_below-2.true) (c.is_below-then-is_below-2.ensures.0 e),
      λ h. c.is_below-then-is_below-2.ensures.1 (below_edge t h 2 r),
    )

pub returns-else-is_below-2 : goal.returns-else-is_below-2
returns-else-is_below-2 g c =
    let q = edge_at c.args.t.now 1 c.support_of.ensures.value c.main_axis-k.ensures c.edge_plane-then-is_below.ensures.value in
    (λ e. absurd (clash e c.if-is_below-2.false), λ h. c.is_below-then-is_below.ensures.1 (below_edge c.args.t.now h 1 q))

pub returns-else-is_below : goal.returns-else-is_below
returns-else-is_below g c =
    let p = edge_at c.args.t.now 0 c.support_of.ensures.value c.main_axis-k.ensures c.edge_plane.ensures.value in
    (λ e. absurd (clash e c.if-is_below.false), λ h. c.is_below.ensures.1 (below_edge c.args.t.now h 0 p))

pub support_of-requires : goal.support_of-requires
support_of-requires g c = tri_within g.met.W.Width.at_most_broad c.requires.tri

pub edge_plane-requires-clause-tri : goal.edge_plane-requires-clause-tri
edge_plane-requires-clause-tri g c = tri_within g.met.W.Width.at_most_broad c.requires.tri

pub is_below-requires : goal.is_below-requires
is_below-requires g c = edge_taken g.met.W.Width.takes (c.edge_plane.ensures.within g.W.Width.corner c.requires.tri)

pub edge_plane-requires-then-is_below-clause-tri : goal.edge_plane-requires-then-is_below-clause-tri
edge_plane-requires-then-is_below-clause-tri g c = tri_within g.met.W.Width.at_most_broad c.requires.tri

pub is_below-requires-then-is_below : goal.is_below-requires-then-is_below
is_below-requires-then-is_below g c =
    edge_taken g.met.W.Width.takes (c.edge_plane-then-is_below.ensures.within g.W.Width.corner c.requires.tri)

pub edge_plane-requires-then-is_below-2-clause-tri : goal.edge_plane-requires-then-is_below-2-clause-tri
edge_plane-requires-then-is_below-2-clause-tri g c = tri_within g.met.W.Width.at_most_broad c.requires.tri

pub is_below-requires-then-is_below-2 : goal.is_below-requires-then-is_below-2
is_below-requires-then-is_below-2 g c =
    edge_taken g.met.W.Width.takes (c.edge_plane-then-is_below-2.ensures.within g.W.Width.corner c.requires.tri)
