use Rattle.std.proofs.Common.{◌≡◌, ℕ, ◌+◌, take, All}
use Rattle.ember_algebra.specs.Size.{Small}
use Rattle.ember_ref.specs.References.{counts_at_right_half}
use Rattle.ember_ref.proofs.shifting.shift.Given as goal

abbrev pub invariant-loop-t : goal.invariant-loop-t
invariant-loop-t l =
    record {
      value : l.v.counts ≡ counts_at_right_half (take l.t-index l.near) l.fn.c l.fn.k l.initial.v.counts;
      within : (m : ℕ) → All (Small m) l.initial.v.counts → All (Small (m + l.t-index)) l.v.counts;
    }
