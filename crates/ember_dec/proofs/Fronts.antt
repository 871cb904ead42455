-- The decimal digits at the front of a text.
use Rattle.std.proofs.Common.{◌≡◌, ◌≤◌, ◌&&◌, ◌++◌, refl, ap, arith, Bool, true, false, cond, ℕ, List, [], ◌∷◌, length}
use Rattle.std.specs.List.{list_all}
use Rattle.std.specs.Char.{is_ascii_digit}
use Rattle.ember_dec.specs.Digits.{digits_of, behind_digits}

-- they are digits
pub digits_are : (bs : List ℕ) → list_all is_ascii_digit (digits_of bs) ≡ true
digits_are [] = refl
digits_are (b ∷ bs) = by (is_ascii_digit b) refl (digits_are bs)
  where
    by : (t : Bool) → is_ascii_digit b ≡ t → list_all is_ascii_digit (digits_of bs) ≡ true →
        list_all is_ascii_digit (cond t (b ∷ digits_of bs) []) ≡ true
    by true e h = λ i. e i && h i
    by false e h = refl

-- the bytes are their first digits and what follows them
pub digits_whole : (bs : List ℕ) → bs ≡ digits_of bs ++ behind_digits bs
digits_whole [] = refl
digits_whole (b ∷ bs) = by (is_ascii_digit b) (digits_whole bs)
  where
    by : (t : Bool) → bs ≡ digits_of bs ++ behind_digits bs → b ∷ bs ≡ cond t (b ∷ digits_of bs) [] ++ cond t (behind_digits bs) (b ∷ bs)
    by true e = ap (λ l. b ∷ l) e
    by false e = refl

-- there are no more of them than bytes
pub digits_few : (bs : List ℕ) → length (digits_of bs) ≤ length bs
digits_few [] = omega arith
digits_few (b ∷ bs) = by (is_ascii_digit b) (digits_few bs)
  where
    by : (t : Bool) → length (digits_of bs) ≤ length bs → length (cond t (b ∷ digits_of bs) []) ≤ length (b ∷ bs)
    by true h = omega (arith, h)
    by false h = omega arith
