use Rattle.std.proofs.Common.{◌∙◌, ap, sym}
use Rattle.ember_algebra.specs.Sign.{sgn, is_neg}
use Rattle.ember_algebra.proofs.Booleans.{same_some}
use Rattle.ember_model.specs.declared.plane.Plane.{Plane}
use Rattle.ember_model.specs.Limits.{broad_limit}
use Rattle.ember_model.specs.Planes.{value_at}
use Rattle.ember_model.specs.Within.{normal_limit}
use Rattle.ember_model.proofs.PlaneSizes.{tri_within}
use Rattle.ember_width.specs.Laws.{broad_planes}
use Rattle.ember_width.proofs.Slides.{edge_within_planes}
use Rattle.ember_width.proofs.TakenPlanes.{edge_taken}
use Rattle.ember_ref.specs.References.{reference_of_list}
use Rattle.ember_ref.proofs.ReferenceLegs.{box_corner}
use Rattle.ember_trace.proofs.reference_lines.is_behind_edge.Goals as goal

pub edge_plane-requires-clause-tri : goal.edge_plane-requires-clause-tri
edge_plane-requires-clause-tri g c = tri_within g.met.W.Width.at_most_broad c.requires.tri

pub side_beside-requires-clause-plane : goal.side_beside-requires-clause-plane
side_beside-requires-clause-plane g c =
    edge_taken broad_planes (c.edge_plane.ensures.within broad_limit (tri_within g.met.W.Width.at_most_broad c.requires.tri))

pub side_beside-requires-clause-corner : goal.side_beside-requires-clause-corner
side_beside-requires-clause-corner g c = box_corner c.args.lo c.requires.corner

pub returns : goal.returns
returns g c = λ p e.
    let m = g.W.Width.corner in let f = g.W.Width.fine in
    let s = edge_within_planes m _ (c.edge_plane.ensures.within m c.requires.tri) in
    let side = c.side_beside.ensures.value (normal_limit m) f (record { a = s.a; b = s.b; c = s.c }) g.met.W.Width.tells_apart in
    c.is_neg.ensures ∙ ap is_neg side
    ∙ ap (λ (h : Plane). is_neg (sgn (value_at h (reference_of_list f c.args.lo)))) (same_some (sym c.edge_plane.ensures.value ∙ e))
