use Rattle.std.proofs.Common.{◌≡◌, ◌≤◌, ◌++◌, ◌-◌, length, take, drop}
use Rattle.std.specs.Prelude.{◌==◌}
use Rattle.ember_obj.specs.Scan.{before, onward}
use Rattle.ember_obj.proofs.scan.cut_before.Given as goal

abbrev pub invariant-loop-end : goal.invariant-loop-end
invariant-loop-end l = record {
  within : l.end ≤ length l.bytes;
  before : before (λ b. b == l.stop) l.bytes ≡ take l.end l.bytes ++ before (λ b. b == l.stop) (drop l.end l.bytes);
  onward : onward (λ b. b == l.stop) l.bytes ≡ onward (λ b. b == l.stop) (drop l.end l.bytes);
}

abbrev pub decreases-loop-end : goal.decreases-loop-end
decreases-loop-end l = length l.bytes - l.end
