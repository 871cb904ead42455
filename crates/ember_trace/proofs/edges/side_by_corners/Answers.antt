use Rattle.std.proofs.Common.{◌∙◌, ℤ}
use Rattle.ember_algebra.proofs.Exact.{narrow, ◌&◌, done, exact}
use Rattle.ember_model.specs.declared.plane.Plane.{Plane}
use Rattle.ember_model.specs.declared.point.Corner.{Corner}
use Rattle.ember_model.specs.Planes.{times_plane, edge_through, unit}
use Rattle.ember_trace.specs.Edges.{side_at}
use Rattle.ember_trace.specs.Paths.{Path, path_of, slid_to_lo}
use Rattle.ember_trace.proofs.ThreeCorners.{by_first, by_next, by_last}
use Rattle.ember_trace.proofs.edges.side_by_corners.Goals as goal

-- the plane through the edge as it is at the end of the first segment
abbrev moved : Path → Corner → Corner → ℤ → Plane
moved w u v s = slid_to_lo w w.main (slid_to_lo w w.second_axis (times_plane s (edge_through u v (unit w.second_axis))))

pub returns-in_default : goal.returns-in_default
returns-in_default g c =
    let w = path_of c.args.way.now in let u = c.args.u.now in let v = c.args.v.now in let e = exact (c.requires.s & done) (narrow 0) tt in
    by_first w (moved w u v c.args.s) c.corner_side_after_first.result
    (c.corner_side_after_first.ensures ∙ (λ i. side_at (moved w u v (e i)) w.first_corner)) c.in_default.not-Zero

pub returns-in_default-corner_side_after_first : goal.returns-in_default-corner_side_after_first
returns-in_default-corner_side_after_first g c =
    let w = path_of c.args.way.now in let u = c.args.u.now in let v = c.args.v.now in let e = exact (c.requires.s & done) (narrow 0) tt in
    by_next w (moved w u v c.args.s) c.corner_side_after_first.result c.corner_side_after_first-in-Zero.result
    (c.corner_side_after_first.ensures ∙ (λ i. side_at (moved w u v (e i)) w.first_corner)) c.in-Zero.is
    (c.corner_side_after_first-in-Zero.ensures ∙ (λ i. side_at (moved w u v (e i)) w.second_corner))
    c.in_default-corner_side_after_first.not-Zero

pub returns-in-Zero-corner_side_after_first : goal.returns-in-Zero-corner_side_after_first
returns-in-Zero-corner_side_after_first g c =
    let w = path_of c.args.way.now in let u = c.args.u.now in let v = c.args.v.now in let e = exact (c.requires.s & done) (narrow 0) tt in
    by_last w (moved w u v c.args.s) c.corner_side_after_first.result c.corner_side_after_first-in-Zero.result
    c.corner_side_after_first-in-Zero-corner_side_after_first.result
    (c.corner_side_after_first.ensures ∙ (λ i. side_at (moved w u v (e i)) w.first_corner)) c.in-Zero.is
    (c.corner_side_after_first-in-Zero.ensures ∙ (λ i. side_at (moved w u v (e i)) w.second_corner))
    c.in-Zero-corner_side_after_first.is (c.corner_side_after_first-in-Zero-corner_side_after_first.ensures
    ∙ (λ i. side_at (moved w u v (e i)) w.third_corner))
