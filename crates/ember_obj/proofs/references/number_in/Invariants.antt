use Rattle.std.proofs.Common.{◌≡◌, drop}
use Rattle.ember_dec.specs.Digits.{number_from}
use Rattle.ember_obj.proofs.references.number_in.Given as goal

abbrev pub invariant-loop-digit : goal.invariant-loop-digit
invariant-loop-digit l = number_from 0 l.digits ≡ number_from l.number (drop l.digit-index l.digits)
