use Rattle.std.proofs.Common.{◌<◌, ◌∙◌, arith, length}
use Rattle.ember_box.specs.Boxes.{left_half, right_half}
use Rattle.ember_box.specs.Near.{is_near, tri_at}
use Rattle.ember_box.proofs.HalfNearness.{kept_more}
use Rattle.ember_box.proofs.nearness.near_halves_among.Goals as goal

pub loop-i-preserved : goal.loop-i-preserved
loop-i-preserved c =
    let tris = c.args.tris.now in let list = c.args.list.now in let cell = c.args.c.now in let k = c.args.axis in
    let i = c.loop-i.i-index in
    let below : i < length list = omega arith in
    let each = c.is_near_halves-is_near_left.ensures cell c.requires.side c.aabb_of_cell-whole.ensures.value c.half_boxes_of-halves.ensures.value in
    record {
      left = kept_more (λ j. is_near (left_half cell k) (tri_at tris j)) list i c.loop-i.left.items
          c.push_if.new.list.items c.is_near_halves-is_near_left.result.0 below c.loop-i.invariant.left each.0
          c.push_if.ensures.items;
      right = kept_more (λ j. is_near (right_half cell k) (tri_at tris j)) list i c.loop-i.right.items
          c.push_if-in-loop-i.new.list.items c.is_near_halves-is_near_left.result.1 below c.loop-i.invariant.right each.1
          c.push_if-in-loop-i.ensures.items;
      left_len = omega (arith, c.push_if.ensures.len, c.loop-i.invariant.left_len);
      right_len = omega (arith, c.push_if-in-loop-i.ensures.len, c.loop-i.invariant.right_len);
      left_room = c.push_if.ensures.capacity ∙ c.loop-i.invariant.left_room;
      right_room = c.push_if-in-loop-i.ensures.capacity ∙ c.loop-i.invariant.right_room;
    }
