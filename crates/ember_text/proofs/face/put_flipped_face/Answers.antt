use Rattle.std.proofs.Common.{◌≡◌, arith, sym, length}
use Rattle.ember_point.specs.Points.{spot_of}
use Rattle.ember_width.specs.Laws.{narrow_is_broad}
use Rattle.ember_poly.specs.Sides.{ring_edges}
use Rattle.ember_text.proofs.GrownBytes.{on_ok_weaker}
use Rattle.ember_text.proofs.Pairs.{length-ring_edges}
use Rattle.ember_text.proofs.Written.{flipped_written}
use Rattle.ember_text.proofs.face.put_flipped_face.Goals as goal

pub opposite_plane-requires : goal.opposite_plane-requires
opposite_plane-requires c = narrow_is_broad c.support.result c.support.ensures.valid

pub put_support-requires : goal.put_support-requires
put_support-requires c = c.opposite_plane.ensures.valid c.support.ensures.valid

pub returns-clause-ok : goal.returns-clause-ok
returns-clause-ok c =
    let o = c.outline.ensures in let es = c.outline.result.0.now in let ms = c.outline.result.1.now in
    let long : length (ring_edges spot_of es ms) ≡ length es = length-ring_edges es ms o.paired in
    on_ok_weaker c.put_turned_edges.result (λ g. flipped_written c.args.r.now c.support.result c.opposite_plane.result
    (ring_edges spot_of es ms) (length es) c.args.out.now.items c.support.ensures.value c.opposite_plane.ensures.value
    (c.opposite_plane.ensures.valid c.support.ensures.valid) o.outline (omega (arith, long, o.three)) (sym long) c.in_ok-put_support.ensures.ok
    g) c.put_turned_edges.ensures.ok
