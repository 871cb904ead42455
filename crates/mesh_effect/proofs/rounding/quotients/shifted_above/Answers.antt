use Rattle.std.proofs.Common.{◌≤◌, ◌^◌, arith}
use Rattle.std.proofs.lemmas.Nat.{one_shl, pow_pos}
use Rattle.std.proofs.Math.Pow.{pow_mono}
use Rattle.mesh_effect.proofs.Above.{one_of_great_power}
use Rattle.mesh_effect.proofs.rounding.quotients.shifted_above.Goals as goal

pub overflow_add-result : goal.overflow_add-result
overflow_add-result c =
    let l = c.if-bits-lt127.true in
    let unit = one_shl c.args.bits 128 (omega (arith, l)) in
    let small : 2 ^ c.args.bits ≤ 2 ^ 126 = pow_mono {j = 126} (omega (arith, l)) in
    record { fits = omega (arith, unit, small, pow_pos c.args.bits, c.requires) }

pub returns-else-bits-lt127 : goal.returns-else-bits-lt127
returns-else-bits-lt127 c = rw c.min.ensures (one_of_great_power c.args.n c.args.bits c.requires c.if-bits-lt127.false)
