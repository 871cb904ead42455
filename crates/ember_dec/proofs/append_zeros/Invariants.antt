use Rattle.std.proofs.Common.{◌≡◌, ◌≤◌, ◌-◌, min, replicate}
use Rattle.ember_dec.specs.Digits.{number_from}
use Rattle.ember_dec.proofs.append_zeros.Given as goal

abbrev pub invariant-loop-turn : goal.invariant-loop-turn
invariant-loop-turn l = record {
  same : min 2048 (number_from l.start (replicate l.count 48)) ≡ min 2048 (number_from l.value (replicate (l.count - l._turn) 48));
  small : l.value ≤ 2048;
}
