use Rattle.std.proofs.Common.{ap, sym, ◌∙◌, ℤ, ◌&&◌}
use Rattle.ember_algebra.specs.Sign.{sign, is_neg}
use Rattle.ember_algebra.proofs.Exact.{narrow, ◌&◌, done, exact}
use Rattle.ember_model.specs.declared.plane.Plane.{Plane}
use Rattle.ember_model.specs.declared.point.Corner.{Corner}
use Rattle.ember_model.specs.Planes.{along, times_plane, edge_through, unit}
use Rattle.ember_model.proofs.SignTests.{and_true}
use Rattle.ember_trace.specs.Paths.{path_of, side_at_end}
use Rattle.ember_trace.proofs.ThreeEdges.{last_of_three}
use Rattle.ember_trace.proofs.edges.short_last_is_behind.Goals as goal

pub returns-then-is_behind_edge_at_end-2 : goal.returns-then-is_behind_edge_at_end-2
returns-then-is_behind_edge_at_end-2 g c =
    let w = path_of c.args.way.now in let f = c.args.triangle.now in let t = f.tri in
    let s = exact (c.slope_number-s.ensures.small & done) (narrow 0) tt ∙ c.slope_number-s.ensures.value ∙ ap (λ (p : Plane). sign (along p w.main)) f.plane in
    let behind = λ (u v : Corner). ap (λ (z : ℤ). is_neg (side_at_end w (times_plane z (edge_through u v (unit w.main))))) s in
    let x = c.is_behind_edge_at_end.ensures ∙ behind t.a t.b in
    let y = c.is_behind_edge_at_end-then-is_behind_edge_at_end.ensures ∙ behind t.b t.c in
    let z = c.is_behind_edge_at_end-then-is_behind_edge_at_end-2.ensures ∙ behind t.c t.a ∙ sym (and_true _) in
    last_of_three c.is_behind_edge_at_end.result c.is_behind_edge_at_end-then-is_behind_edge_at_end.result
    c.is_behind_edge_at_end-then-is_behind_edge_at_end-2.result _ c.if-is_behind_edge_at_end.true
    c.if-is_behind_edge_at_end-2.true (λ i. x i && (y i && z i))
