use Rattle.std.proofs.Common.{◌≡◌, ◌≤◌, ℕ, ◌-◌, ◌*◌, ◌%◌, ◌^◌, refl, ap, ◌∙◌, mul-le-mul, arith}
use Rattle.std.proofs.lemmas.Nat.{one_shl}
use Rattle.std.proofs.Math.Pow.{pow_mono}
use Rattle.mesh_effect.specs.Rounding.Floats.{significand_of, last_place}
use Rattle.mesh_effect.proofs.rounding.floats.written_size.Goals.{After-from}
use Rattle.mesh_effect.proofs.rounding.floats.written_size.Goals as goal

shift : (c : After-from) → c.saturating_sub.result ≡ last_place c.args.bits - 149
shift c = c.saturating_sub.ensures ∙ ap (λ (p : ℕ). p - 149) c.last_place.ensures.value

unit : (c : After-from) → (1 * 2 ^ c.saturating_sub.result) % 2 ^ 128 ≡ 2 ^ (last_place c.args.bits - 149)
unit c = rw (shift c) (one_shl (last_place c.args.bits - 149) 128 (omega (arith, c.requires.place)))

pub overflow_mul-result : goal.overflow_mul-result
overflow_mul-result c =
    let power : 2 ^ (last_place c.args.bits - 149) ≤ 2 ^ 104 = pow_mono {j = 104} (omega (arith, c.requires.place)) in
    let short : significand_of c.args.bits ≤ 2 ^ 24 - 1 = omega (arith, c.requires.short) in
    let most : significand_of c.args.bits * 2 ^ (last_place c.args.bits - 149) ≤ (2 ^ 24 - 1) * 2 ^ 104 = mul-le-mul short power in
    record { fits = rw (unit c, c.from.ensures, c.significand_of.ensures) (omega (arith, most)) }

pub returns : goal.returns
returns c = rw (unit c, c.from.ensures, c.significand_of.ensures) refl
