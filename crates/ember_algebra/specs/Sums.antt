-- Sums of integers over the elements of a list, and how often an element occurs
use Rattle.std.specs.Prelude.{ℕ, ◌+◌, ℤ, pos, ◌+ℤ◌, Bool, if◌then◌else◌, List, [], ◌∷◌}

-- the sum of the values of f over the members
abbrev pub total : {U : Type 0} → (U → ℤ) → List U → ℤ
total f [] = pos 0
total f (x ∷ xs) = f x +ℤ total f xs

-- how often x occurs, if `same` says whether two elements are equal
abbrev pub occurrences : {U : Type 0} → (U → U → Bool) → U → List U → ℕ
occurrences same x [] = 0
occurrences same x (y ∷ ys) = (if same x y then 1 else 0) + occurrences same x ys
