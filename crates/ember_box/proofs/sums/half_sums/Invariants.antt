use Rattle.std.proofs.Common.{take}
use Rattle.ember_box.specs.Near.{listed}
use Rattle.ember_box.specs.Sums.{AreSums}
use Rattle.ember_box.proofs.Counting.{sums_of}
use Rattle.ember_box.proofs.sums.half_sums.Given as goal

abbrev pub invariant-loop-i : goal.invariant-loop-i
invariant-loop-i l =
    AreSums 0 (take l.i-index (listed l.tris l.list)) l.c (sums_of l.near l.x_sum l.y_sum l.z_sum)
