use Rattle.std.proofs.Common.{◌≤◌, ◌<◌, length, decimal, arith}
use Rattle.std.proofs.lemmas.Fmt.{length-decimal-le_wide, decimal_nonempty}
use Rattle.mesh_effect.proofs.rounding.text.put_exponent.Goals as goal

pub overflow_cast-behind : goal.overflow_cast-behind
overflow_cast-behind c =
    let most : length (decimal c.args.size) ≤ 9 = length-decimal-le_wide 9 c.args.size (omega arith) c.requires.short (omega (arith, c.requires.short)) in
    record { fits = omega (arith, most, c.digits_of.ensures) }

pub overflow_sub-behind : goal.overflow_sub-behind
overflow_sub-behind c =
    let some : 0 < length (decimal c.args.size) = decimal_nonempty c.args.size (omega (arith, c.requires.short)) in
    omega (arith, some, c.digits_of.ensures)

pub put_shifted-requires : goal.put_shifted-requires
put_shifted-requires c =
    let most : length (decimal c.args.size) ≤ 9 = length-decimal-le_wide 9 c.args.size (omega arith) c.requires.short (omega (arith, c.requires.short)) in
    omega (arith, most, c.digits_of.ensures)

pub overflow_sub-places : goal.overflow_sub-places
overflow_sub-places c =
    let most : length (decimal c.args.size) ≤ c.args.places =
    length-decimal-le_wide c.args.places c.args.size c.requires.some c.requires.below
    (omega (arith, c.requires.short)) in
    omega (arith, most, c.digits_of.ensures)
