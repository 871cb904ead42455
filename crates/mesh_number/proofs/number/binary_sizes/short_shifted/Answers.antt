use Rattle.std.proofs.Common.{◌^◌, arith}
use Rattle.std.proofs.lemmas.Nat.{pow_pos}
use Rattle.mesh_number.proofs.Rounding.{quotient_up_of_more}
use Rattle.mesh_number.proofs.number.binary_sizes.short_shifted.Goals as goal

pub returns-else-x-eq0 : goal.returns-else-x-eq0
returns-else-x-eq0 c =
    rw c.if-not-up.false (quotient_up_of_more c.args.x (2 ^ c.args.places) (omega (arith, c.if-x-eq0.false)) (pow_pos c.args.places))
