use Rattle.ember_model.proofs.PlaneSizes.{tri_within}
use Rattle.ember_width.proofs.TakenPlanes.{edge_taken}
use Rattle.ember_trace.proofs.whole_rays.is_pierced.Goals as goal

pub edge_plane-requires-clause-tri : goal.edge_plane-requires-clause-tri
edge_plane-requires-clause-tri g c = tri_within g.met.W.Width.at_most_broad c.requires

pub edge_plane-requires-then-is_behind-clause-tri : goal.edge_plane-requires-then-is_behind-clause-tri
edge_plane-requires-then-is_behind-clause-tri g c = tri_within g.met.W.Width.at_most_broad c.requires

pub edge_plane-requires-then-is_behind-2-clause-tri : goal.edge_plane-requires-then-is_behind-2-clause-tri
edge_plane-requires-then-is_behind-2-clause-tri g c = tri_within g.met.W.Width.at_most_broad c.requires

pub is_behind-requires : goal.is_behind-requires
is_behind-requires g c = edge_taken g.met.W.Width.takes (c.edge_plane.ensures.within g.W.Width.corner c.requires)

pub is_behind-requires-then-is_behind : goal.is_behind-requires-then-is_behind
is_behind-requires-then-is_behind g c = edge_taken g.met.W.Width.takes (c.edge_plane-then-is_behind.ensures.within g.W.Width.corner c.requires)

pub is_behind-requires-then-is_behind-2 : goal.is_behind-requires-then-is_behind-2
is_behind-requires-then-is_behind-2 g c = edge_taken g.met.W.Width.takes (c.edge_plane-then-is_behind-2.ensures.within g.W.Width.corner c.requires)
