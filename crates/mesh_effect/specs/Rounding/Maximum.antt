-- The greatest of what a list's items give
use Rattle.std.specs.Prelude.{ℕ, max, List, [], ◌∷◌}

-- and 0 if there are none
abbrev pub greatest_of : {A : Type 0} → (A → ℕ) → List A → ℕ
greatest_of f [] = 0
greatest_of f (x ∷ xs) = max (f x) (greatest_of f xs)
