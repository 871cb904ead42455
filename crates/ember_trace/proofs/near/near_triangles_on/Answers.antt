use Rattle.ember_box.specs.Boxes.{in_steps}
use Rattle.ember_trace.proofs.NearTriangleLists.{more_facets, has_reference}
use Rattle.ember_trace.proofs.near.near_triangles_on.Goals as goal

pub loop-t-preserved : goal.loop-t-preserved
loop-t-preserved g c =
    let f = g.W.Width.fine in let b = in_steps g.W.Width.scale c.args.c.now in
    more_facets f c.args.near.now c.loop-t.t-index _ b c.loop-t.found.items _ c.near_triangle_of.result
    c.loop-t-test.true c.loop-t.invariant c.near_triangle_of.ensures.tri
    (has_reference f b c.near_triangle_of.result _ c.lo_on-lo.result c.lo_on-lo.ensures.value
    c.near_triangle_of.ensures.tri c.near_triangle_of.ensures.reference_side c.near_triangle_of.ensures.first_lines)
    c.in_ok-push.ensures.items
