use Rattle.std.proofs.Common.{◌≡◌, ◌+◌, ◌-◌, arith, List, length, subst, ◌∙◌, ap}
use Rattle.ember_algebra.specs.Relations.{Each}
use Rattle.ember_leaf.specs.Written.{HasGrown}
use Rattle.ember_model.specs.Edges.{RingEdge}
use Rattle.ember_point.specs.Points.{spot_of}
use Rattle.ember_poly.specs.Sides.{ring_edges}
use Rattle.ember_text.specs.Texts.{IsEdgeText}
use Rattle.ember_text.proofs.Pairs.{length-ring_edges}
use Rattle.ember_text.proofs.TurnedEdges.{turned_from, turned_all, turned_begun, turned_more}
use Rattle.ember_text.proofs.edges.put_turned_edges.Goals as goal

pub loop-next-init : goal.loop-next-init
loop-next-init c =
    let es = c.args.edges.now in let ms = c.args.corners.now in let two = c.requires.two in
    record {
      first = omega (arith, two);
      last = omega (arith, two);
      grown = turned_begun es ms (length es - 1) c.index-corners-0.result c.index-corners-1.result c.args.out.now.items
          c.requires.paired two (omega (arith, two)) c.index-corners-0.is c.index-corners-1.is c.in_ok-put_edge.ensures.ok
          c.in_ok-put_edge-2.ensures.ok;
    }

pub loop-next-preserved : goal.loop-next-preserved
loop-next-preserved c =
    let es = c.args.edges.now in let ms = c.args.corners.now in let l = c.loop-next in
    let more = c.loop-next-test.true in let last = l.invariant.last in
    record {
      first = omega (arith, more);
      last = omega (arith, last);
      grown = turned_more es ms l.next (l.next - 1) (l.next - 1 + 1) c.index-corners-next.result c.args.out.now.items
          c.requires.paired last (omega (arith, more)) (omega arith) c.index-corners-next.is l.invariant.grown
          c.in_ok-put_edge-3.ensures.ok;
    }

pub returns-clause-ok : goal.returns-clause-ok
returns-clause-ok c =
    let es = c.args.edges.now in let ms = c.args.corners.now in let l = c.loop-next in
    let one : l.next ≡ 1 = omega (arith, c.loop-next-test.false, l.invariant.first) in
    let long = length-ring_edges es ms c.requires.paired in
    subst (λ (rs : List RingEdge). HasGrown (Each IsEdgeText rs) c.args.out.now.items l.out.items)
    (ap (turned_from (ring_edges spot_of es ms)) one ∙ turned_all (ring_edges spot_of es ms) (omega (arith, long, c.requires.two)))
    l.invariant.grown
