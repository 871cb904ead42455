use Rattle.std.proofs.Common.{◌≡◌, ◌+◌, ◌-◌, ◌++◌, ◌∷◌, length}
use Rattle.ember_dec.specs.Digits.{number_from}
use Rattle.mesh_number.specs.Round.Decimals.{fraction_digits}
use Rattle.mesh_shapes.proofs.decimals.put_fraction.Given as goal

abbrev pub invariant-loop-place : goal.invariant-loop-place
invariant-loop-place l =
    l.out.items ++ fraction_digits (l.zeros - l.place + length l.digits) (number_from 0 l.digits)
    ≡ l.fn.out.items ++ (46 ∷ fraction_digits (l.zeros + length l.digits) (number_from 0 l.digits))
