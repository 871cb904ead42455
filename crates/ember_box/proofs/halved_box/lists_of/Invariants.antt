use Rattle.std.proofs.Common.{◌≡◌, ℕ, ◌<◌, ◌≤◌, List, length, take, vec_len, vec_capacity}
use Rattle.ember_model.specs.declared.tri.Tri.{Tri}
use Rattle.ember_box.specs.Boxes.{Cell}
use Rattle.ember_box.specs.NearParts.{AreNearPartsAt}
use Rattle.ember_box.specs.Halved.{AreNearListsOn}
use Rattle.ember_box.proofs.halved_box.lists_of.Given as goal

abbrev pub invariant-loop-i : goal.invariant-loop-i
invariant-loop-i l =
    record {
      lists : (n : ℕ) (ts : List Tri) (c : Cell) → 0 < c.log l.axis → AreNearPartsAt n ts c l.list l.parts →
          AreNearListsOn n ts c l.axis (take l.i l.list) l.left.items l.right.items;
      left_len : vec_len l.left ≤ l.i;
      right_len : vec_len l.right ≤ l.i;
      left_room : vec_capacity l.left ≡ length l.list;
      right_room : vec_capacity l.right ≡ length l.list;
    }
