-- Each two numbers have a greatest common divisor
use Rattle.std.specs.Int.{IsGcd}
use Rattle.std.proofs.Common.{ℕ, zero, suc, ◌%◌, ◌≤◌, refl, arith}
use Rattle.std.proofs.lemmas.Nat.Gcd.{IsGcd-from_zero, IsGcd-from_mod}

pub record HasGcd (a b : ℕ) : Type 0 where
  pub divisor : ℕ
  pub is : IsGcd a b divisor

-- if the second is below a bound
pub gcd_within : (n a b : ℕ) → b ≤ n → HasGcd a b
gcd_within zero a b l = record { divisor = a; is = IsGcd-from_zero a b (omega arith) }
gcd_within (suc n) a zero l = record { divisor = a; is = IsGcd-from_zero a zero refl }
gcd_within (suc n) a (suc b) l =
    let rest = gcd_within n (suc b) (a % suc b) (omega arith) in
    record { divisor = rest.divisor; is = IsGcd-from_mod a (suc b) rest.divisor rest.is }
