-- The numbers that lists of digits spell.
use Rattle.std.specs.List.{list_all}
use Rattle.std.specs.Char.{is_ascii_digit}
use Rattle.std.proofs.Common.{◌≡◌, ◌≤◌, ◌<◌, ℕ, zero, suc, Bool, true, ◌+◌, ◌-◌, ◌*◌, ◌^◌, List, [], ◌∷◌}
use Rattle.std.proofs.Common.{◌++◌, length, drop, get_or, ◌∙◌, sym, ap, arith}
use Rattle.std.proofs.lemmas.Bool.Decides.{nat_tests}
use Rattle.std.proofs.Math.Nat.{pow-suc, mul-le-mul_left}
use Rattle.ember_dec.specs.Digits.{number_from}
use Rattle.std.proofs.Math.Seq.{drop-cons}
use Rattle.std.proofs.lemmas.Bool.{and_parts}
use Rattle.ember_dec.proofs.Numbers.{number_from-append}
use Rattle.mesh_number.specs.Number.Quotients.{quotient}
use Rattle.mesh_number.proofs.Rounding.{quotient_chain, quotient_le}

start_moves : (s x p r f g : ℕ) → f ≡ (s * 10 + x) * p + r → g ≡ (0 * 10 + x) * p + r → f ≡ s * (p * 10) + g
start_moves s x p r f g a b = omega arith

-- a number in front of digits
number_from-start : (s : ℕ) (ds : List ℕ) → number_from s ds ≡ s * 10 ^ length ds + number_from 0 ds
number_from-start s [] = omega arith
number_from-start s (d ∷ ds) =
    rw pow-suc (start_moves s (d - 48) (10 ^ length ds) (number_from 0 ds) _ _
    (number_from-start (s * 10 + (d - 48)) ds) (number_from-start (0 * 10 + (d - 48)) ds))

-- digits behind digits
pub number_from-behind : (xs ys : List ℕ) → number_from 0 (xs ++ ys) ≡ number_from 0 xs * 10 ^ length ys + number_from 0 ys
number_from-behind xs ys = number_from-append 0 xs ys ∙ number_from-start (number_from 0 xs) ys

-- a digit in front
number_from-digit : (d : ℕ) (ds : List ℕ) → number_from 0 (d ∷ ds) ≡ (d - 48) * 10 ^ length ds + number_from 0 ds
number_from-digit d ds = number_from-start (0 * 10 + (d - 48)) ds ∙ (omega arith)

-- a power of ten is positive
pub pow_ten_pos : (k : ℕ) → 0 < 10 ^ k
pow_ten_pos zero = omega arith
pow_ten_pos (suc k) = rw (pow-suc 10 k) (omega (arith, pow_ten_pos k))

below_step : (x p r f : ℕ) → f ≡ x * p + r → x ≤ 9 → r < p → f < p * 10
below_step x p r f e h b = let m : p * x ≤ p * 9 = mul-le-mul_left p h in omega (arith, m)

digit_small : (d : ℕ) → is_ascii_digit d ≡ true → d - 48 ≤ 9
digit_small d h = grind (arith, nat_tests)

-- digits spell less than the power of ten for their count
pub number_from-below : (ds : List ℕ) → list_all is_ascii_digit ds ≡ true → number_from 0 ds < 10 ^ length ds
number_from-below [] h = omega arith
number_from-below (d ∷ ds) h =
    let parts = and_parts (is_ascii_digit d) (list_all is_ascii_digit ds) h in
    rw pow-suc (below_step (d - 48) (10 ^ length ds) (number_from 0 ds) (number_from 0 (d ∷ ds))
    (number_from-digit d ds) (digit_small d parts.0) (number_from-below ds parts.1))

-- a digit by its place
digit_at : (ds : List ℕ) (i : ℕ) → list_all is_ascii_digit ds ≡ true → i < length ds → is_ascii_digit (get_or ds i 0) ≡ true
digit_at [] i h p = absurd (omega arith)
digit_at (d ∷ ds) zero h p = (and_parts (is_ascii_digit d) (list_all is_ascii_digit ds) h).0
digit_at (d ∷ ds) (suc i) h p = digit_at ds i (and_parts (is_ascii_digit d) (list_all is_ascii_digit ds) h).1 (omega arith)

-- and its bounds
pub digit_bounds : (ds : List ℕ) (i : ℕ) → list_all is_ascii_digit ds ≡ true → i < length ds → (48 ≤ get_or ds i 0) × (get_or ds i 0 ≤ 57)
digit_bounds ds i h p = within (get_or ds i 0) (digit_at ds i h p)
  where
    within : (d : ℕ) → is_ascii_digit d ≡ true → (48 ≤ d) × (d ≤ 57)
    within d h = (grind (arith, nat_tests), grind (arith, nat_tests))

-- a digit more in front of those whose multiple is known
digit_before : (up : Bool) (start factor : ℕ) (ds : List ℕ) (i value : ℕ) → i < length ds
    → value ≡ quotient up (start + factor * number_from 0 (drop (suc i) ds)) (10 ^ length (drop (suc i) ds))
    → quotient up (value + (get_or ds i 0 - 48) * factor) 10 ≡ quotient up (start + factor * number_from 0 (drop i ds)) (10 ^ length (drop i ds))
digit_before up start factor ds i value h e =
    let rest = drop (suc i) ds in let x = get_or ds i 0 - 48 in let p = 10 ^ length rest in
    let over : start + factor * number_from 0 rest + p * (x * factor) ≡ start + factor * number_from 0 (get_or ds i 0 ∷ rest) =
    regroup start factor (number_from 0 rest) p x ∙ ap (λ (n : ℕ). start + factor * n) (sym (number_from-digit (get_or ds i 0) rest)) in
    rw (e, drop-cons ds i 0 h)
    (quotient_chain up (start + factor * number_from 0 rest) p (x * factor) 10 (pow_ten_pos (length rest)) (omega arith)
    ∙ ap (λ (n : ℕ). quotient up n (p * 10)) over
    ∙ ap (λ (n : ℕ). quotient up (start + factor * number_from 0 (get_or ds i 0 ∷ rest)) n) (sym (pow-suc 10 (length rest))))
  where
    regroup : (start factor n p x : ℕ) → start + factor * n + p * (x * factor) ≡ start + factor * (x * p + n)
    regroup start factor n p x = omega arith

-- the same, as a loop that goes from the last digit to the first meets it
pub digit_before_end : (up : Bool) (start factor : ℕ) (ds : List ℕ) (end value : ℕ) → 0 < end → end ≤ length ds
    → value ≡ quotient up (start + factor * number_from 0 (drop end ds)) (10 ^ length (drop end ds))
    → quotient up (value + (get_or ds (end - 1) 0 - 48) * factor) 10 ≡ quotient up
    (start + factor * number_from 0 (drop (end - 1) ds)) (10 ^ length (drop (end - 1) ds))
digit_before_end up start factor ds zero value p h e = absurd (omega arith)
digit_before_end up start factor ds (suc i) value p h e =
    let last : suc i - 1 ≡ i = omega arith in rw last (digit_before up start factor ds i value (omega arith) e)

-- a multiple with a digit more stays within the factor
pub digit_small_multiple : (up : Bool) (value x factor : ℕ) → value ≤ factor → x ≤ 9 → quotient up (value + x * factor) 10 ≤ factor
digit_small_multiple up value x factor h d =
    let m : factor * x ≤ factor * 9 = mul-le-mul_left factor d in quotient_le up (value + x * factor) 10 factor (omega arith) (omega (arith, m))
