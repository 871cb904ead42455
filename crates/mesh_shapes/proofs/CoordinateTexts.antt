-- The text of a coordinate, by the digits of its number
use Rattle.std.proofs.Common.{◌≡◌, ℕ, zero, suc, ◌+◌, ◌-◌, ◌*◌, ◌/◌, ◌%◌, ◌^◌, ◌<◌, ◌≤◌, Bool, true, false, List, [], ◌++◌, length, take, drop}
use Rattle.std.proofs.Common.{refl, sym, ap, ap₂, ◌∙◌, subst, arith, min, decimal, pos, pow-add, take-append-drop, length-drop}
use Rattle.std.specs.Prelude.{int_lt, nat_lt}
use Rattle.std.specs.List.{list_all}
use Rattle.std.specs.Char.{is_ascii_digit}
use Rattle.std.proofs.lemmas.Bool.Decides.{nat_tests}
use Rattle.std.proofs.lemmas.Nat.{div-mul-add, mod-mul-add}
use Rattle.std.proofs.Math.Nat.{pow-le-pow_right, mul-div-mul_right, mod-lt, mul-pos, div-lt_iff_lt-mul, div-eq_of_lt, mod-eq_of_lt}
use Rattle.ember_dec.specs.Digits.{number_from}
use Rattle.mesh_number.specs.Number.Fractions.{signed_whole, is_below_limit}
use Rattle.mesh_number.specs.Round.Decimals.{sign_text, fraction_text, decimal_text}
use Rattle.mesh_number.proofs.DigitNumbers.{number_from-behind, number_from-below, pow_ten_pos}
use Rattle.mesh_number.proofs.Parts.{list_all-drop}
use Rattle.mesh_number.proofs.Rounding.{by_lt}
use Rattle.mesh_number.proofs.SignedFloors.{unsigned_abs-signed_whole}
use Rattle.mesh_write.specs.Text.Lines.{coordinate_text}
use Rattle.mesh_shapes.proofs.FractionTexts.{padded_text, times_rest}

-- ---- the digits before the point, and those behind it
-- the whole part of a number of so many places, and what is left
pub record AreParts (digits : List ℕ) (places : ℕ) (front behind : List ℕ) : Type 0 where
  pub whole : number_from 0 digits / 10 ^ places ≡ number_from 0 front
  pub rest : number_from 0 digits % 10 ^ places ≡ number_from 0 behind
  pub count : (places - length behind) + length behind ≡ places

long_parts : (digits whole rest : List ℕ) (places : ℕ) → digits ≡ whole ++ rest → length rest ≡ places →
    list_all is_ascii_digit rest ≡ true → AreParts digits places whole rest
long_parts digits whole rest places all count d =
    let n : number_from 0 digits ≡ number_from 0 whole * 10 ^ places + number_from 0 rest =
    ap (λ (l : List ℕ). number_from 0 l) all ∙ number_from-behind whole rest ∙ ap (λ (i : ℕ). number_from 0 whole * 10 ^ i + number_from 0 rest) count in
    let below = subst (λ (i : ℕ). number_from 0 rest < 10 ^ i) count (number_from-below rest d) in
    record {
      whole = ap (λ (i : ℕ). i / 10 ^ places) n ∙ div-mul-add (number_from 0 whole) (10 ^ places) (number_from 0 rest) below;
      rest = ap (λ (i : ℕ). i % 10 ^ places) n ∙ mod-mul-add (number_from 0 whole) (10 ^ places) (number_from 0 rest) below;
      count = omega (arith, count);
    }

short_parts : (digits : List ℕ) (places : ℕ) → length digits ≤ places → list_all is_ascii_digit digits ≡ true → AreParts digits places [] digits
short_parts digits places few d =
    let more : 10 ^ length digits ≤ 10 ^ places = pow-le-pow_right (omega arith) few in
    let below : number_from 0 digits < 10 ^ places = omega (arith, more, number_from-below digits d) in
    record { whole = div-eq_of_lt below; rest = mod-eq_of_lt below; count = omega arith }

pub parts_at_point : (digits : List ℕ) (places : ℕ) → list_all is_ascii_digit digits ≡ true →
    AreParts digits places (take (length digits - places) digits) (drop (length digits - places) digits)
parts_at_point digits places d =
    by_lt (length digits) places
    (λ h. let none : length digits - places ≡ 0 = omega arith in rw none (short_parts digits places (omega arith) d))
    (λ h. long_parts digits _ _ places (sym (take-append-drop (length digits - places) digits))
    (omega (arith, length-drop (length digits - places) digits)) (list_all-drop (length digits - places) digits d))

-- ---- more places
-- the number of so many places below the most, in units of the last of the most
pub record IsPadded (n places most : ℕ) : Type 0 where
  pub whole : n * 10 ^ (most - places) / 10 ^ most ≡ n / 10 ^ places
  pub text : fraction_text most (n * 10 ^ (most - places) % 10 ^ most) ≡ fraction_text places (n % 10 ^ places)

pub number_padded : (n places most : ℕ) → places ≤ most → IsPadded n places most
number_padded n places most h =
    let k = most - places in
    let count : most ≡ places + k = omega arith in
    let power : 10 ^ most ≡ 10 ^ places * 10 ^ k = ap (λ (i : ℕ). 10 ^ i) count ∙ pow-add 10 places k in
    record {
      whole = ap (λ (i : ℕ). n * 10 ^ k / i) power ∙ mul-div-mul_right n (10 ^ places) (pow_ten_pos k);
      text = ap (λ (i : ℕ). fraction_text most (n * 10 ^ k % i)) power
          ∙ ap₂ (λ (m p : ℕ). fraction_text p m) (times_rest n (10 ^ places) (10 ^ k) (pow_ten_pos places) (pow_ten_pos k)) count
          ∙ padded_text places k (n % 10 ^ places) (mod-lt n (pow_ten_pos places));
    }

-- ---- signs
above_nought : (n k : ℕ) → 0 < n → 0 < n * 10 ^ k
above_nought n k some = mul-pos some (pow_ten_pos k)

sign_of_nought : (minus : Bool) → sign_text minus 0 ≡ []
sign_of_nought true = refl
sign_of_nought false = refl

some_above : (n : ℕ) → nat_lt 0 (suc n) ≡ true
some_above n = grind (arith, nat_tests)

none_below : (n : ℕ) → nat_lt (suc n) 0 ≡ false
none_below n = grind (arith, nat_tests)

sign_of_some : (minus : Bool) (m n : ℕ) → 0 < n → 0 < m → sign_text (int_lt (signed_whole minus m) (pos 0)) m ≡ sign_text minus n
sign_of_some minus m zero a b = absurd (omega arith)
sign_of_some minus zero n a b = absurd (omega arith)
sign_of_some true (suc m) (suc n) a b = rw (some_above m, some_above n) refl
sign_of_some false (suc m) (suc n) a b = rw (none_below m) refl

pub same_sign : (minus : Bool) (n k : ℕ) → sign_text (int_lt (signed_whole minus (n * 10 ^ k)) (pos 0)) (n * 10 ^ k) ≡ sign_text minus n
same_sign minus zero k = let none : 0 * 10 ^ k ≡ 0 = omega arith in rw none (sign_of_nought _ ∙ sym (sign_of_nought minus))
same_sign minus (suc n) k = sign_of_some minus (suc n * 10 ^ k) (suc n) (omega arith) (above_nought (suc n) k (omega arith))

-- ---- coordinates
pub below_limit : (minus : Bool) (n d : ℕ) → is_below_limit (record { numerator = signed_whole minus n; denominator = d }) ≡ true → n < 10 ^ 15 * d
below_limit minus n d h =
    let same = unsigned_abs-signed_whole minus n in
    let test : nat_lt n (10 ^ 15 * d) ≡ true = rw same at h in grind (arith, nat_tests)

-- the text of a coordinate in units of the last of the most places
pub coordinate_by_parts : (minus : Bool) (digits front behind : List ℕ) (places most whole : ℕ) → places ≤ most →
    AreParts digits places front behind → whole ≡ min (10 ^ 15) (number_from 0 front) →
    is_below_limit (record { numerator = signed_whole minus (number_from 0 digits); denominator = 10 ^ places }) ≡ true →
    coordinate_text most (signed_whole minus (number_from 0 digits * 10 ^ (most - places)))
    ≡ sign_text minus (number_from 0 digits) ++ (decimal whole ++ fraction_text (places - length behind + length behind) (number_from 0 behind))
coordinate_by_parts minus digits front behind places most whole h parts w below =
    let n = number_from 0 digits in
    let size = n * 10 ^ (most - places) in
    let padded = number_padded n places most h in
    let small : n / 10 ^ places < 10 ^ 15 = (div-lt_iff_lt-mul (pow_ten_pos places)).1 (below_limit minus n (10 ^ places) below) in
    let same : n / 10 ^ places ≡ whole = omega (arith, parts.whole) in
    ap (λ (i : ℕ). decimal_text (int_lt (signed_whole minus size) (pos 0)) i most) (unsigned_abs-signed_whole minus size)
    ∙ ap₂ (λ (a b : List ℕ). a ++ (decimal (size / 10 ^ most) ++ b)) (same_sign minus n (most - places)) padded.text
    ∙ ap (λ (i : ℕ). sign_text minus n ++ (decimal i ++ fraction_text places (n % 10 ^ places))) (padded.whole ∙ same)
    ∙ ap₂ (λ (p i : ℕ). sign_text minus n ++ (decimal whole ++ fraction_text p i)) (sym parts.count) parts.rest

-- the same, if the parts were cut there
pub parts_where_cut : (digits front behind : List ℕ) (places cut : ℕ) → cut ≡ length digits - places → front ≡ take cut digits →
    behind ≡ drop cut digits → list_all is_ascii_digit digits ≡ true → AreParts digits places front behind
parts_where_cut digits front behind places cut at f b d = rw (f, b, at) (parts_at_point digits places d)
