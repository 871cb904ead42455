use Rattle.std.proofs.Common.{◌≡◌, ◌≤◌, ◌++◌, ◌-◌, length, take, drop}
use Rattle.ember_dec.specs.Decimal.{before_point, behind_point}
use Rattle.mesh_number.proofs.number.texts.split_point.Given as goal

abbrev pub invariant-loop-end : goal.invariant-loop-end
invariant-loop-end l = record {
  within : l.end ≤ length l.text;
  before : before_point l.text ≡ take l.end l.text ++ before_point (drop l.end l.text);
  behind : behind_point l.text ≡ behind_point (drop l.end l.text);
}

abbrev pub decreases-loop-end : goal.decreases-loop-end
decreases-loop-end l = length l.text - l.end
