use Rattle.std.proofs.Common.{◌≡◌, ◌∙◌, arith, ◌-◌, ◌≤◌, length}
use Rattle.ember_poly.specs.Boundaries.{sides}
use Rattle.ember_poly.proofs.ListOutline.{length-sides_of}
use Rattle.ember_poly.proofs.PassageSides.{part_of_rotated, kept_around}
use Rattle.ember_poly.proofs.boundary.Boundary.close.Goals as goal

pub returns-in_ok-put-clause-part : goal.returns-in_ok-put-clause-part
returns-in_ok-put-clause-part g c =
    let a = c.args in let r = a.self.now in let q = c.requires.paired in
    let count : c.len-len.result ≡ length (sides g.W.Width.spot r) =
    omega (
      arith,
      c.len-len.ensures,
      r.edges.ok.0,
      length-sides_of g.W.Width.spot r.edges.items r.corners.items r.plane_indices.items q.corners q.plane_indices,
    ) in
    record {
      index = 0;
      order = c.in_ok-put.ensures.order ∙ part_of_rotated g.W.Width.spot (sides g.W.Width.spot r) a.passage.now a.plane a.plane_index c.len-len.result
          count c.rotate.ensures.order c.set_start.ensures.order;
      paired = c.in_ok-put.ensures.paired;
    }

pub returns-in_ok-put-2-clause-part : goal.returns-in_ok-put-2-clause-part
returns-in_ok-put-2-clause-part g c =
    let a = c.args in let r = a.self.now in let q = c.requires.paired in let at = a.passage.now in
    let ahead = c.len-len.result - at.entry_edge in let first = c.requires.entry_edge in let kept = c.requires.below_count in
    let same = length-sides_of g.W.Width.spot r.edges.items r.corners.items r.plane_indices.items q.corners q.plane_indices in
    let count : c.len-len.result ≡ length r.edges.items = c.len-len.ensures ∙ r.edges.ok.0 in
    let long : ahead ≤ at.below_count = c.if-passage-ahead.false in
    record {
      index = ahead;
      order = c.in_ok-put-2.ensures.order ∙ kept_around g.W.Width.spot (sides g.W.Width.spot r) at a.plane a.plane_index ahead
          (omega (arith, count, same, first)) (omega (arith, count, first)) (omega (arith, same, kept)) long
          c.set_start-else-passage-ahead.ensures.order;
      paired = c.in_ok-put-2.ensures.paired;
    }
