use Rattle.std.proofs.Common.{◌≡◌, ◌≤◌, ◌-◌, drop, length}
use Rattle.ember_dec.specs.Digits.{digits_of, behind_digits, number_from}
use Rattle.ember_reread.proofs.number.first_digits.Given as goal

abbrev pub invariant-loop-value : goal.invariant-loop-value
invariant-loop-value l = record {
  within : l.end ≤ length l.bytes;
  value : number_from 0 (digits_of l.bytes) ≡ number_from l.value (digits_of (drop l.end l.bytes));
  behind : behind_digits l.bytes ≡ behind_digits (drop l.end l.bytes);
}

abbrev pub decreases-loop-value : goal.decreases-loop-value
decreases-loop-value l = length l.bytes - l.end
