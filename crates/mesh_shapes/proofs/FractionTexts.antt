-- The digits behind a point, by the digits of a number
use Rattle.std.proofs.Common.{◌≡◌, ℕ, zero, suc, ◌+◌, ◌-◌, ◌*◌, ◌/◌, ◌%◌, ◌^◌, ◌<◌, ◌≤◌, ◌==◌, ◌++◌, append_assoc, true, false, List, [], ◌∷◌, length, refl, sym, ap, ap₂, ◌∙◌, arith, pow-add}
use Rattle.std.specs.List.{list_all}
use Rattle.std.specs.Char.{is_ascii_digit}
use Rattle.std.proofs.lemmas.Bool.{and_parts}
use Rattle.std.proofs.lemmas.Bool.Decides.{nat_tests}
use Rattle.std.proofs.lemmas.Nat.{div-mul-add, mod-mul-add, div-add-mod'}
use Rattle.std.proofs.Math.Nat.{pow-le-pow_right, div-eq_of_lt, mod-eq_of_lt, mod-lt, mul-div-mul_right, mul-lt-mul_of_pos_right, mul-pos}
use Rattle.ember_dec.specs.Digits.{number_from}
use Rattle.mesh_number.specs.Round.Decimals.{fraction_digits, fraction_text}
use Rattle.mesh_number.proofs.Digits.{no_digits}
use Rattle.mesh_number.proofs.DigitNumbers.{number_from-behind, number_from-below, digit_bounds, pow_ten_pos}

-- the first digit of what is above 0
fraction_first : (k n : ℕ) → 0 < n → fraction_digits (suc k) n ≡ (48 + n / 10 ^ k) ∷ fraction_digits k (n % 10 ^ k)
fraction_first k zero some = absurd (omega arith)
fraction_first k (suc n) some = refl

-- a zero in front
pub zero_first : (k n : ℕ) → 0 < n → n < 10 ^ k → fraction_digits (suc k) n ≡ 48 ∷ fraction_digits k n
zero_first k n some small =
    fraction_first k n some ∙ ap₂ (λ (a b : ℕ). (48 + a) ∷ fraction_digits k b) (div-eq_of_lt small) (mod-eq_of_lt small)

-- a digit in front
pub digit_first : (d : ℕ) (ds : List ℕ) → list_all is_ascii_digit (d ∷ ds) ≡ true → 0 < number_from 0 (d ∷ ds) →
    fraction_digits (length (d ∷ ds)) (number_from 0 (d ∷ ds)) ≡ d ∷ fraction_digits (length ds) (number_from 0 ds)
digit_first d ds digits some =
    let n = number_from 0 (d ∷ ds) in
    let k = length ds in
    let m = number_from 0 ds in
    let below : m < 10 ^ k = number_from-below ds (and_parts (is_ascii_digit d) (list_all is_ascii_digit ds) digits).1 in
    let first : (48 ≤ d) × (d ≤ 57) = digit_bounds (d ∷ ds) 0 digits (omega arith) in
    let parts : n ≡ (d - 48) * 10 ^ k + m = number_from-behind (d ∷ []) ds ∙ ap (λ (i : ℕ). i * 10 ^ k + m) (omega arith) in
    let over : 48 + n / 10 ^ k ≡ d = ap (λ (i : ℕ). 48 + i / 10 ^ k) parts ∙ ap (λ (i : ℕ). 48 + i) (div-mul-add (d - 48) (10 ^ k) m below) ∙ omega (arith, first.0) in
    let left : n % 10 ^ k ≡ m = ap (λ (i : ℕ). i % 10 ^ k) parts ∙ mod-mul-add (d - 48) (10 ^ k) m below in
    fraction_first k n some ∙ ap₂ (λ (a b : ℕ). a ∷ fraction_digits k b) over left

-- ---- zeros behind
pub times_rest : (m a c : ℕ) → 0 < a → 0 < c → (m * c) % (a * c) ≡ (m % a) * c
times_rest m a c some more =
    let whole : m * c ≡ (m / a) * (a * c) + (m % a) * c = ap (λ (i : ℕ). i * c) (sym (div-add-mod' m a)) ∙ regroup (m / a) (m % a) a c in
    ap (λ (i : ℕ). i % (a * c)) whole ∙ mod-mul-add (m / a) (a * c) ((m % a) * c) (mul-lt-mul_of_pos_right (mod-lt m some) more)
  where
    regroup : (q r a c : ℕ) → (q * a + r) * c ≡ q * (a * c) + r * c
    regroup q r a c = omega arith

times_some : (m k : ℕ) → 0 < m → 0 < m * 10 ^ k
times_some m k some = mul-pos some (pow_ten_pos k)

pub padded_digits : (p k m : ℕ) → m < 10 ^ p → fraction_digits (p + k) (m * 10 ^ k) ≡ fraction_digits p m
padded_digits zero k m small =
    let nought : m ≡ 0 = omega (arith, small) in
    let none : m * 10 ^ k ≡ 0 = ap (λ (i : ℕ). i * 10 ^ k) nought ∙ omega arith in
    rw none (no_digits (0 + k))
padded_digits (suc p) k zero small =
    let none : 0 * 10 ^ k ≡ 0 = omega arith in rw none (no_digits (suc p + k))
padded_digits (suc p) k (suc m) small =
    let count : suc p + k ≡ suc (p + k) = omega arith in
    let over : suc m * 10 ^ k / 10 ^ (p + k) ≡ suc m / 10 ^ p =
    ap (λ (i : ℕ). suc m * 10 ^ k / i) (pow-add 10 p k) ∙ mul-div-mul_right (suc m) (10 ^ p) (pow_ten_pos k) in
    let left : suc m * 10 ^ k % 10 ^ (p + k) ≡ (suc m % 10 ^ p) * 10 ^ k =
    ap (λ (i : ℕ). suc m * 10 ^ k % i) (pow-add 10 p k) ∙ times_rest (suc m) (10 ^ p) (10 ^ k) (pow_ten_pos p) (pow_ten_pos k) in
    ap (λ (i : ℕ). fraction_digits i (suc m * 10 ^ k)) count
    ∙ fraction_first (p + k) (suc m * 10 ^ k) (times_some (suc m) k (omega arith))
    ∙ ap₂ (λ (a b : ℕ). (48 + a) ∷ fraction_digits (p + k) b) over left
    ∙ ap (λ (ds : List ℕ). (48 + suc m / 10 ^ p) ∷ ds) (padded_digits p k (suc m % 10 ^ p) (mod-lt (suc m) (pow_ten_pos p)))

-- the text behind a whole number
not_none : (n : ℕ) → (suc n == 0) ≡ false
not_none n = grind (arith, nat_tests)

some_text : (places n : ℕ) → 0 < n → fraction_text places n ≡ 46 ∷ fraction_digits places n
some_text places zero some = absurd (omega arith)
some_text places (suc n) some = rw (not_none n) refl

pub padded_text : (p k m : ℕ) → m < 10 ^ p → fraction_text (p + k) (m * 10 ^ k) ≡ fraction_text p m
padded_text p k zero small = let none : 0 * 10 ^ k ≡ 0 = omega arith in rw none refl
padded_text p k (suc m) small =
    some_text (p + k) (suc m * 10 ^ k) (times_some (suc m) k (omega arith))
    ∙ ap (λ (ds : List ℕ). 46 ∷ ds) (padded_digits p k (suc m) small) ∙ sym (some_text p (suc m) (omega arith))

-- a digit is appended
pub digit_appended : (old now new : List ℕ) (d : ℕ) (ds rest : List ℕ) → rest ≡ d ∷ ds → new ≡ now ++ d ∷ [] →
    list_all is_ascii_digit rest ≡ true → (number_from 0 rest == 0) ≡ false →
    now ++ fraction_digits (length rest) (number_from 0 rest) ≡ old → new ++ fraction_digits (length ds) (number_from 0 ds) ≡ old
digit_appended old now new d ds rest front more digits some before =
    let all : list_all is_ascii_digit (d ∷ ds) ≡ true = ap (λ (l : List ℕ). list_all is_ascii_digit l) (sym front) ∙ digits in
    let left : (number_from 0 (d ∷ ds) == 0) ≡ false = ap (λ (l : List ℕ). number_from 0 l == 0) (sym front) ∙ some in
    let above : 0 < number_from 0 (d ∷ ds) = grind (arith, nat_tests) in
    ap (λ (l : List ℕ). l ++ fraction_digits (length ds) (number_from 0 ds)) more
    ∙ append_assoc now (d ∷ []) (fraction_digits (length ds) (number_from 0 ds))
    ∙ ap (λ (l : List ℕ). now ++ l) (sym (digit_first d ds all above))
    ∙ ap (λ (l : List ℕ). now ++ fraction_digits (length l) (number_from 0 l)) (sym front) ∙ before

-- a zero is appended, where this one and more are still to come
pub zero_appended : (old now new : List ℕ) (zeros place more n : ℕ) → place < zeros → 0 < n → n < 10 ^ more → new ≡ now ++ 48 ∷ [] →
    now ++ fraction_digits (zeros - place + more) n ≡ old → new ++ fraction_digits (zeros - (place + 1) + more) n ≡ old
zero_appended old now new zeros place more n left some small add before =
    let k = zeros - (place + 1) + more in
    let count : zeros - place + more ≡ suc k = omega arith in
    let wide : 10 ^ more ≤ 10 ^ k = pow-le-pow_right (omega arith) (omega arith) in
    let below : n < 10 ^ k = omega (arith, wide) in
    ap (λ (l : List ℕ). l ++ fraction_digits k n) add ∙ append_assoc now (48 ∷ []) (fraction_digits k n)
    ∙ ap (λ (l : List ℕ). now ++ l) (sym (zero_first k n some below))
    ∙ ap (λ (i : ℕ). now ++ fraction_digits i n) (sym count) ∙ before
