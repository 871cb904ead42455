use Rattle.std.proofs.Common.{◌<◌, length, arith}
use Rattle.std.proofs.lemmas.Bool.Decides.{nat_tests}
use Rattle.ember_dec.specs.Digits.{number_from}
use Rattle.mesh_number.proofs.DigitNumbers.{number_from-below}
use Rattle.mesh_shapes.proofs.FractionTexts.{zero_appended}
use Rattle.mesh_shapes.proofs.decimals.put_fraction.Goals as goal

pub loop-place-preserved : goal.loop-place-preserved
loop-place-preserved c =
    let digits = c.args.digits.now in
    let some : 0 < number_from 0 digits = grind (arith, nat_tests, c.if-is_nought.ensures) in
    zero_appended _ c.loop-place.out.items c.push-in-loop-place.new.self.items c.args.zeros c.loop-place.place (length digits) (number_from 0 digits)
    c.loop-place-test.true some (number_from-below digits c.requires) c.in_ok-push-2.ensures.items c.loop-place.invariant
