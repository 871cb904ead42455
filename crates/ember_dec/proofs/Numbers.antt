-- The number that decimal digits spell.
use Rattle.std.proofs.Common.{◌≡◌, ◌≤◌, ◌<◌, ℕ, zero, suc, length, drop, get_or, ◌+◌, ◌-◌, ◌*◌, List, [], ◌∷◌, ◌++◌, refl, arith}
use Rattle.ember_dec.specs.Digits.{number_from}

-- reading two lists of digits is reading the first and then the second
pub number_from-append : (v : ℕ) (xs ys : List ℕ) → number_from v (xs ++ ys) ≡ number_from (number_from v xs) ys
number_from-append v [] ys = refl
number_from-append v (x ∷ xs) ys = number_from-append (v * 10 + (x - 48)) xs ys

-- digits behind a number don't make it smaller
pub number_from-grows : (v : ℕ) (ds : List ℕ) → v ≤ number_from v ds
number_from-grows v [] = omega arith
number_from-grows v (d ∷ ds) = omega (arith, number_from-grows (v * 10 + (d - 48)) ds)

-- the digit at a place, and those behind it
pub number_from-drop : (v i : ℕ) (ds : List ℕ) → i < length ds → number_from v (drop i ds) ≡ number_from (v * 10 + (get_or ds i 0 - 48)) (drop (suc i) ds)
number_from-drop v i [] h = absurd (omega arith)
number_from-drop v zero (d ∷ ds) h = refl
number_from-drop v (suc i) (d ∷ ds) h = number_from-drop v i ds (omega arith)
