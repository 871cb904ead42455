use Rattle.std.proofs.Common.{◌≡◌, ◌≤◌, ◌++◌, ◌-◌, length, take, drop}
use Rattle.ember_obj.specs.Scan.{before, onward, is_separator}
use Rattle.ember_obj.proofs.scan.cut_field.Given as goal

abbrev pub invariant-loop-end : goal.invariant-loop-end
invariant-loop-end l = record {
  within : l.end ≤ length l.bytes;
  before : before is_separator l.bytes ≡ take l.end l.bytes ++ before is_separator (drop l.end l.bytes);
  onward : onward is_separator l.bytes ≡ onward is_separator (drop l.end l.bytes);
}

abbrev pub decreases-loop-end : goal.decreases-loop-end
decreases-loop-end l = length l.bytes - l.end
