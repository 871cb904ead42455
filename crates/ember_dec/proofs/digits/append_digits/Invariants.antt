use Rattle.std.proofs.Common.{◌≡◌, ◌≤◌, min, drop}
use Rattle.ember_dec.specs.Digits.{number_from}
use Rattle.ember_dec.proofs.digits.append_digits.Given as goal

abbrev pub invariant-loop-digit : goal.invariant-loop-digit
invariant-loop-digit l = record {
  same : min l.limit (number_from l.start l.digits) ≡ min l.limit (number_from l.value (drop l.digit-index l.digits));
  small : l.value ≤ l.limit;
}
