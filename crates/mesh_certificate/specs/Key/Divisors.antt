-- Common divisors of whole numbers
use Rattle.std.specs.Prelude.{◌≡◌, ℕ, List, ℤ, unsigned_abs}
use Rattle.std.specs.Int.{◌∣◌}
use Rattle.ember_algebra.specs.Relations.{Every}

-- d divides each of the numbers
abbrev pub Divides : ℕ → List ℤ → Type 0
Divides d zs = Every (λ z. d ∣ unsigned_abs z) zs

-- d divides each of them, and each number that does divides d
pub record IsGreatestDivisor (zs : List ℤ) (d : ℕ) : Type 0 where
  pub divides : Divides d zs
  pub greatest : (k : ℕ) → Divides k zs → k ∣ d

-- 1 is their only common divisor
pub record AreLowest (zs : List ℤ) : Type 0 where
  pub lowest : (k : ℕ) → Divides k zs → k ≡ 1
