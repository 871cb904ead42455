use Rattle.std.proofs.Common.{[], ◌∷◌, refl, to_z-of_z}
use mir.Syntax.{w64}
use Rattle.mesh_certificate.specs.Key.Divisors.{IsGreatestDivisor}
use Rattle.mesh_certificate.proofs.Divisors.{greatest_divisor_more, same_gcd, size_read}
use Rattle.mesh_certificate.proofs.key.divisor.divisor_of_four.Goals as goal

pub returns : goal.returns
returns c =
    let a = c.args.a in let b = c.args.b in let e = c.args.c in let r = c.ranges in
    let first : IsGreatestDivisor (a ∷ b ∷ e ∷ []) c.divisor_of_three.result = rw (to_z-of_z r.a, to_z-of_z r.b, to_z-of_z r.c) at c.divisor_of_three.ensures in
    greatest_divisor_more (a ∷ b ∷ e ∷ []) c.args.d _ _ first (same_gcd refl (size_read w64 r.d c.unsigned_abs.ensures.value) c.gcd.ensures)
