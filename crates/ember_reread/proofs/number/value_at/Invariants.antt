use Rattle.std.proofs.Common.{◌≡◌, ◌≤◌, ◌<◌, ◌^◌, ◌-◌, drop, length}
use Rattle.ember_dec.specs.Digits.{digits_of, behind_digits, number_from}
use Rattle.ember_reread.proofs.number.value_at.Given as goal

abbrev pub invariant-loop-end : goal.invariant-loop-end
invariant-loop-end l = record {
  within : l.end ≤ length l.bytes;
  value : number_from 0 (digits_of l.bytes) ≡ number_from l.value (digits_of (drop l.end l.bytes));
  behind : behind_digits l.bytes ≡ behind_digits (drop l.end l.bytes);
  small : l.value < 2 ^ 128;
}

abbrev pub decreases-loop-end : goal.decreases-loop-end
decreases-loop-end l = length l.bytes - l.end
