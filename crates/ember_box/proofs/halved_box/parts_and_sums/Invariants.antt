use Rattle.std.proofs.Common.{◌≡◌, take, length}
use Rattle.ember_box.specs.Near.{listed}
use Rattle.ember_box.specs.Sums.{AreSums}
use Rattle.ember_box.specs.NearParts.{AreNearPartsAt}
use Rattle.ember_box.proofs.Counting.{sums_of}
use Rattle.ember_box.proofs.halved_box.parts_and_sums.Given as goal

abbrev pub invariant-loop-i : goal.invariant-loop-i
invariant-loop-i g l =
    record {
      sums : AreSums g.W.Width.scale (take l.i-index (listed l.tris l.list)) l.c (sums_of l.near l.x_sum l.y_sum l.z_sum);
      parts : AreNearPartsAt g.W.Width.scale l.tris l.c l.list l.parts.items;
      count : length l.parts.items ≡ l.i-index;
    }
