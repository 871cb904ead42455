use Rattle.std.proofs.Common.{◌≡◌, ◌≤◌, length, take, vec_len, vec_capacity}
use Rattle.ember_box.specs.Boxes.{left_half, right_half}
use Rattle.ember_box.specs.Near.{near_indices}
use Rattle.ember_box.proofs.nearness.near_halves_among.Given as goal

abbrev pub invariant-loop-i : goal.invariant-loop-i
invariant-loop-i l =
    record {
      left : l.left.items ≡ near_indices l.tris (left_half l.c l.axis) (take l.i-index l.list);
      right : l.right.items ≡ near_indices l.tris (right_half l.c l.axis) (take l.i-index l.list);
      left_len : vec_len l.left ≤ l.i-index;
      right_len : vec_len l.right ≤ l.i-index;
      left_room : vec_capacity l.left ≡ length l.list;
      right_room : vec_capacity l.right ≡ length l.list;
    }
