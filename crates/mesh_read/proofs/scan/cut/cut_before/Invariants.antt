use Rattle.std.proofs.Common.{◌≡◌, ◌≤◌, ◌++◌, ◌-◌, length, take, drop}
use Rattle.std.specs.Prelude.{◌==◌}
use Rattle.ember_obj.specs.Scan.{before, onward}
use Rattle.mesh_read.proofs.scan.cut.cut_before.Given as goal

abbrev pub invariant-loop-end : goal.invariant-loop-end
invariant-loop-end l = record {
  within : l.end ≤ length l.part.bytes.now;
  before : before (λ b. b == l.stop) l.part.bytes.now ≡ take l.end l.part.bytes.now ++ before (λ b. b == l.stop) (drop l.end l.part.bytes.now);
  onward : onward (λ b. b == l.stop) l.part.bytes.now ≡ onward (λ b. b == l.stop) (drop l.end l.part.bytes.now);
}

abbrev pub decreases-loop-end : goal.decreases-loop-end
decreases-loop-end l = length l.part.bytes.now - l.end
