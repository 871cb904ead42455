use Rattle.std.proofs.Common.{◌≡◌, ◌≤◌, ◌++◌, ◌-◌, length, take, drop}
use Rattle.mesh_number.specs.Number.Texts.{mantissa, exponent_of}
use Rattle.mesh_number.proofs.number.texts.split_exponent.Given as goal

abbrev pub invariant-loop-end : goal.invariant-loop-end
invariant-loop-end l = record {
  within : l.end ≤ length l.text;
  before : mantissa l.text ≡ take l.end l.text ++ mantissa (drop l.end l.text);
  behind : exponent_of l.text ≡ exponent_of (drop l.end l.text);
}

abbrev pub decreases-loop-end : goal.decreases-loop-end
decreases-loop-end l = length l.text - l.end
