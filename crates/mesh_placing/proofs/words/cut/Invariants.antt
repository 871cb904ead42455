use Rattle.std.proofs.Common.{◌≡◌, ◌≤◌, ◌-◌, ◌==◌, ◌++◌, length, take, drop}
use Rattle.ember_obj.specs.Scan.{before, onward}
use Rattle.mesh_placing.proofs.words.cut.Given as goal

abbrev pub invariant-loop-end : goal.invariant-loop-end
invariant-loop-end l = record {
  within : l.end ≤ length l.text;
  before : before (λ b. b == l.stop) l.text ≡ take l.end l.text ++ before (λ b. b == l.stop) (drop l.end l.text);
  onward : onward (λ b. b == l.stop) l.text ≡ onward (λ b. b == l.stop) (drop l.end l.text);
}

abbrev pub decreases-loop-end : goal.decreases-loop-end
decreases-loop-end l = length l.text - l.end
