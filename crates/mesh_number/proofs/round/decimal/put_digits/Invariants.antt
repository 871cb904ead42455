use Rattle.std.proofs.Common.{◌≡◌, ◌^◌, ◌<◌, ◌≤◌, ◌++◌}
use Rattle.mesh_number.specs.Round.Decimals.{fraction_digits}
use Rattle.mesh_number.proofs.round.decimal.put_digits.Given as goal

abbrev pub invariant-loop-rest : goal.invariant-loop-rest
invariant-loop-rest l = record {
  text : l.out.items ++ fraction_digits l.left l.rest ≡ l.fn.out.items ++ fraction_digits l.places l.part;
  small : l.left ≤ 17;
  rest : l.rest < 10 ^ l.left;
}

abbrev pub decreases-loop-rest : goal.decreases-loop-rest
decreases-loop-rest l = l.left
