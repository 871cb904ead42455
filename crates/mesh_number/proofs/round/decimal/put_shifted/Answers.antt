use Rattle.std.proofs.Common.{arith}
use Rattle.mesh_number.proofs.Digits.{power_of_10_positive}
use Rattle.mesh_number.proofs.round.decimal.put_shifted.Goals as goal

pub nonzero_div-size : goal.nonzero_div-size
nonzero_div-size c = omega (arith, c.from-unit.ensures, c.pow.ensures, power_of_10_positive c.args.places)

pub nonzero_rem-size : goal.nonzero_rem-size
nonzero_rem-size c = omega (arith, c.from-unit.ensures, c.pow.ensures, power_of_10_positive c.args.places)

pub put_fraction-requires-clause-part : goal.put_fraction-requires-clause-part
put_fraction-requires-clause-part c = omega (arith, c.from-unit.ensures, c.pow.ensures, power_of_10_positive c.args.places)

pub overflow_cast-size : goal.overflow_cast-size
overflow_cast-size c =
    record { fits = omega (arith, c.from-unit.ensures, c.pow.ensures, c.pow.type_inv, power_of_10_positive c.args.places) }
