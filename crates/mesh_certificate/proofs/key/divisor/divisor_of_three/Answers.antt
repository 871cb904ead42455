use Rattle.std.proofs.Common.{[], ◌∷◌, refl}
use mir.Syntax.{w64}
use Rattle.mesh_certificate.proofs.Divisors.{greatest_divisor_of_two, greatest_divisor_more, same_gcd, size_read}
use Rattle.mesh_certificate.proofs.key.divisor.divisor_of_three.Goals as goal

pub returns : goal.returns
returns c =
    let a = c.args.a in let b = c.args.b in
    let first = greatest_divisor_of_two a b _ (same_gcd (size_read w64 c.ranges.a c.unsigned_abs.ensures.value)
    (size_read w64 c.ranges.b c.unsigned_abs-2.ensures.value) c.gcd-first.ensures) in
    greatest_divisor_more (a ∷ b ∷ []) c.args.c _ _ first (same_gcd refl (size_read w64 c.ranges.c c.unsigned_abs-3.ensures.value) c.gcd.ensures)
