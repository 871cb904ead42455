use Rattle.std.proofs.Common.{arith, List, subst}
use Rattle.std.proofs.lemmas.List.{take_all}
use Rattle.ember_algebra.specs.Relations.{Each}
use Rattle.ember_leaf.specs.Written.{HasGrown}
use Rattle.ember_model.specs.Edges.{RingEdge}
use Rattle.ember_model.specs.Planes.{zero_plane}
use Rattle.ember_point.specs.Points.{spot_of}
use Rattle.ember_poly.specs.Sides.{ring_edges}
use Rattle.ember_text.specs.Texts.{IsEdgeText}
use Rattle.ember_text.proofs.GrownBytes.{on_err, extends_by, grown_none, grown_take}
use Rattle.ember_text.proofs.Pairs.{length-ring_edges, ring_at}
use Rattle.ember_text.proofs.edges.put_edges.Goals as goal

pub loop-i-init : goal.loop-i-init
loop-i-init c = grown_none c.args.out.now.items

pub returns-in_err-put_edge-clause-fault : goal.returns-in_err-put_edge-clause-fault
returns-in_err-put_edge-clause-fault c =
    on_err c.from_residual.result (extends_by c.args.out.now.items c.loop-i.invariant c.in_err-put_edge.ensures.fault)

pub loop-i-preserved : goal.loop-i-preserved
loop-i-preserved c =
    let es = c.args.edges.now in let ms = c.args.corners.now in let m = c.index-corners-i.result in
    let d : RingEdge = record { plane = zero_plane; start = spot_of m } in
    grown_take (ring_edges spot_of es ms) c.loop-i.i d c.args.out.now.items
    (rw (length-ring_edges es ms c.requires.paired) c.loop-i-test.true) c.loop-i.invariant
    (subst (λ (e : RingEdge). HasGrown (IsEdgeText e) c.loop-i.out.items c.put_edge.new.out.items)
    (ring_at es ms c.loop-i.i d m c.requires.paired c.loop-i-test.true c.index-corners-i.is)
    c.in_ok-put_edge.ensures.ok)

pub returns-clause-ok : goal.returns-clause-ok
returns-clause-ok c =
    let es = c.args.edges.now in let ms = c.args.corners.now in
    subst (λ (rs : List RingEdge). HasGrown (Each IsEdgeText rs) c.args.out.now.items c.loop-i.out.items)
    (take_all c.loop-i.i (ring_edges spot_of es ms) (rw (length-ring_edges es ms c.requires.paired)
    (omega (arith, c.loop-i-test.false)))) c.loop-i.invariant
