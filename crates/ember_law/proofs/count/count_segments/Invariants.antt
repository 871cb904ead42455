use Rattle.std.proofs.Common.{◌≡◌, ℕ, ◌+◌, take, All}
use Rattle.ember_algebra.specs.Size.{Small}
use Rattle.ember_law.specs.Counts.{added, leg_vector}
use Rattle.ember_law.proofs.count.count_segments.Given as goal

abbrev pub invariant-loop-t : goal.invariant-loop-t
invariant-loop-t l =
    record {
      value : l.v.counts ≡ added l.initial.v.counts (leg_vector (take l.t-index l.tris) l.p l.q);
      within : (m : ℕ) → All (Small m) l.initial.v.counts → All (Small (m + l.t-index)) l.v.counts;
    }
