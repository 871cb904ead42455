-- What holds for every large number, and a polynomial's value at one
use Rattle.std.specs.Prelude.{ℕ, ◌≤◌, List, [], ◌∷◌, ℤ, pos, negsuc, zero, suc, ◌+ℤ◌, ◌*ℤ◌, ⊤}
use Rattle.ember_algebra.specs.Size.{Small}

-- P holds of all numbers from some number on
pub record Eventually (P : ℕ → Type 0) : Type 0 where
  pub from : ℕ
  pub holds : (n : ℕ) → from ≤ n → P n

-- a * m ^ k + v₁ * m ^ (k - 1) + .. + vₖ
abbrev pub horner : ℤ → ℤ → List ℤ → ℤ
horner m a [] = a
horner m a (v ∷ vs) = horner m (a *ℤ m +ℤ v) vs

-- the sign of the first that is not 0
abbrev pub first_sign : List ℤ → ℤ
first_sign [] = pos 0
first_sign (pos zero ∷ vs) = first_sign vs
first_sign (pos (suc n) ∷ vs) = pos 1
first_sign (negsuc n ∷ vs) = negsuc 0

-- all members are at most m in size
abbrev pub EachSmall : ℕ → List ℤ → Type 0
EachSmall m [] = ⊤
EachSmall m (v ∷ vs) = Small m v × EachSmall m vs
