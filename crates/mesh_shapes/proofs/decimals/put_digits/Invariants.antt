use Rattle.std.proofs.Common.{◌≡◌, ◌++◌, true, length}
use Rattle.std.specs.List.{list_all}
use Rattle.std.specs.Char.{is_ascii_digit}
use Rattle.ember_dec.specs.Digits.{number_from}
use Rattle.mesh_number.specs.Round.Decimals.{fraction_digits}
use Rattle.mesh_shapes.proofs.decimals.put_digits.Given as goal

abbrev pub invariant-loop-first : goal.invariant-loop-first
invariant-loop-first l = record {
  text : l.out.items ++ fraction_digits (length l.rest) (number_from 0 l.rest)
      ≡ l.fn.out.items ++ fraction_digits (length l.digits) (number_from 0 l.digits);
  digits : list_all is_ascii_digit l.rest ≡ true;
}

abbrev pub decreases-loop-first : goal.decreases-loop-first
decreases-loop-first l = length l.rest
