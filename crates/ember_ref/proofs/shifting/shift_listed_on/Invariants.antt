use Rattle.std.proofs.Common.{◌≡◌, ℕ, ◌+◌, take, All}
use Rattle.ember_algebra.specs.Size.{Small}
use Rattle.ember_box.specs.Boxes.{in_steps}
use Rattle.ember_box.specs.Near.{listed}
use Rattle.ember_ref.specs.References.{counts_beside}
use Rattle.ember_ref.proofs.shifting.shift_listed_on.Given as goal

abbrev pub invariant-loop-i : goal.invariant-loop-i
invariant-loop-i g l =
    record {
      value : l.v.counts ≡ counts_beside g.W.Width.fine (take l.i-index (listed l.tris l.list))
          (in_steps g.W.Width.scale l.fn.c) l.fn.axis
          l.initial.v.counts;
      within : (m : ℕ) → All (Small m) l.initial.v.counts → All (Small (m + l.i-index)) l.v.counts;
    }
