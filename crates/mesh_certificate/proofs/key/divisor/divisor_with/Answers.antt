use Rattle.std.proofs.Common.{refl, sym, subst, unsigned_abs}
use Rattle.std.specs.Int.{◌∣◌}
use Rattle.std.proofs.Math.Nat.{one-dvd}
use Rattle.std.proofs.lemmas.Nat.Gcd.{IsGcd-swap, IsGcd-from_mod}
use mir.Syntax.{w128}
use Rattle.mesh_certificate.proofs.Divisors.{same_gcd, size_read}
use Rattle.mesh_certificate.proofs.key.divisor.divisor_with.Goals as goal

pub returns : goal.returns
returns c =
    same_gcd refl (size_read w128 c.ranges.large c.unsigned_abs.ensures.value) (IsGcd-swap _ _ _ (IsGcd-from_mod _ _ _ c.gcd.ensures))

pub returns-then-divisor-eq1 : goal.returns-then-divisor-eq1
returns-then-divisor-eq1 c =
    let e = c.if-divisor-eq1.true in
    (subst (λ n. 1 ∣ n) (sym e) (one-dvd 1), one-dvd (unsigned_abs c.args.large), λ k h _. subst (λ n. k ∣ n) e h)
