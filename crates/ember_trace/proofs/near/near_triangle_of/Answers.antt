use Rattle.std.proofs.Common.{◌∙◌, ap, refl}
use Rattle.ember_model.specs.Limits.{broad_limit}
use Rattle.ember_model.specs.Within.{normal_limit}
use Rattle.ember_model.proofs.PlaneSizes.{tri_within}
use Rattle.ember_width.specs.Laws.{broad_planes}
use Rattle.ember_width.proofs.TakenPlanes.{support_taken, edge_taken}
use Rattle.ember_box.specs.Boxes.{axis_index}
use Rattle.ember_ref.proofs.ReferenceLegs.{box_corner}
use Rattle.ember_trace.proofs.near.near_triangle_of.Goals as goal

pub support_of-support-requires : goal.support_of-support-requires
support_of-support-requires g c = tri_within g.met.W.Width.at_most_broad c.requires.within

pub main_edges-requires-clause-tri : goal.main_edges-requires-clause-tri
main_edges-requires-clause-tri g c = tri_within g.met.W.Width.at_most_broad c.requires.within

pub side_beside-requires-clause-plane : goal.side_beside-requires-clause-plane
side_beside-requires-clause-plane g c =
    support_taken broad_planes (c.support_of-support.ensures.within broad_limit (tri_within g.met.W.Width.at_most_broad c.requires.within))

pub side_beside-requires-clause-corner : goal.side_beside-requires-clause-corner
side_beside-requires-clause-corner g c = box_corner c.args.lo c.requires.corner

pub invariant_of-result : goal.invariant_of-result
invariant_of-result g c =
    let w = g.met.W.Width in let m = g.W.Width.corner in
    let support = c.support_of-support.ensures.within m c.requires.within in
    let edges = c.main_edges.ensures.within m c.requires.within in
    record {
      valid = c.requires.within;
      mesh = c.requires.mesh;
      plane = c.support_of-support.ensures.value;
      sized = support;
      edge_planes = c.main_edges.ensures.value;
      edges_sized = edges;
      broad_tri = tri_within w.at_most_broad c.requires.within;
      broad_support = w.is_broad _ (support_taken w.takes support);
      broad_edges = λ i d l. w.is_broad _ (edge_taken w.takes (edges i d l));
      bounds = c.aabb_of_tri-aabb.ensures;
      main = c.index_of.ensures.value ∙ ap axis_index c.main_axis.ensures;
      by_axes = refl;
    }

pub returns-clause-reference_side : goal.returns-clause-reference_side
returns-clause-reference_side g c =
    let s = c.support_of-support.ensures.within g.W.Width.corner c.requires.within in
    c.side_beside.ensures.value (normal_limit g.W.Width.corner) g.W.Width.fine (record { a = s.a; b = s.b; c = s.c }) g.met.W.Width.tells_apart
