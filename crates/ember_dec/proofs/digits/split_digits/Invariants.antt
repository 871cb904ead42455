use Rattle.std.proofs.Common.{◌≡◌, ◌≤◌, ◌++◌, ◌-◌, length, take, drop}
use Rattle.ember_dec.specs.Digits.{digits_of, behind_digits}
use Rattle.ember_dec.proofs.digits.split_digits.Given as goal

abbrev pub invariant-loop-end : goal.invariant-loop-end
invariant-loop-end l = record {
  within : l.end ≤ length l.text;
  digits : digits_of l.text ≡ take l.end l.text ++ digits_of (drop l.end l.text);
  behind : behind_digits l.text ≡ behind_digits (drop l.end l.text);
}

abbrev pub decreases-loop-end : goal.decreases-loop-end
decreases-loop-end l = length l.text - l.end
