use Rattle.std.proofs.Common.{ap, sym, ◌∙◌, ℤ, ◌&&◌}
use Rattle.ember_algebra.specs.Sign.{sign, is_neg}
use Rattle.ember_algebra.proofs.Exact.{narrow, ◌&◌, done, exact}
use Rattle.ember_model.specs.declared.plane.Plane.{Plane}
use Rattle.ember_model.specs.declared.point.Corner.{Corner}
use Rattle.ember_model.specs.Planes.{along, times_plane, edge_through, unit}
use Rattle.ember_model.proofs.SignTests.{and_true}
use Rattle.ember_trace.specs.Paths.{path_of, side_after_first}
use Rattle.ember_trace.proofs.ThreeEdges.{last_of_three}
use Rattle.ember_trace.proofs.edges.short_second_is_behind.Goals as goal

pub returns-then-is_behind_edge_after_first-2 : goal.returns-then-is_behind_edge_after_first-2
returns-then-is_behind_edge_after_first-2 g c =
    let w = path_of c.args.way.now in let f = c.args.triangle.now in let t = f.tri in
    let s = exact (c.slope_number-s.ensures.small & done) (narrow 0) tt ∙ c.slope_number-s.ensures.value
    ∙ ap (λ (p : Plane). sign (along p w.second_axis)) f.plane in
    let behind = λ (u v : Corner). ap (λ (z : ℤ). is_neg (side_after_first w (times_plane z (edge_through u v (unit w.second_axis))))) s in
    let x = c.is_behind_edge_after_first.ensures ∙ behind t.a t.b in
    let y = c.is_behind_edge_after_first-then-is_behind_edge_after_first.ensures ∙ behind t.b t.c in
    let z = c.is_behind_edge_after_first-then-is_behind_edge_after_first-2.ensures ∙ behind t.c t.a ∙ sym (and_true _) in
    last_of_three c.is_behind_edge_after_first.result
    c.is_behind_edge_after_first-then-is_behind_edge_after_first.result
    c.is_behind_edge_after_first-then-is_behind_edge_after_first-2.result _ c.if-is_behind_edge_after_first.true
    c.if-is_behind_edge_after_first-2.true (λ i. x i && (y i && z i))
