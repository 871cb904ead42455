-- The bits of a binary32, and its value.
use Rattle.std.proofs.Common.{◌≡◌, ℕ, ◌+◌, ◌-◌, ◌*◌, ◌/◌, ◌%◌, ◌^◌, ◌<◌, ◌≤◌, Bool, true, false, cond, eqb, Option, Some, None, refl, sym, ap, ◌∙◌, arith}
use Rattle.std.proofs.lemmas.Bool.Decides.{nat_tests}
use Rattle.std.proofs.lemmas.Option.{none-some, same_Some}
use Rattle.mesh_number.specs.Number.Fractions.{Fraction, signed_whole}
use Rattle.mesh_number.specs.Number.Floats.{binary32_value}
use Rattle.mesh_number.specs.Number.Values.{binary_value}
use Rattle.mesh_number.proofs.Rounding.{by_lt}
use Rattle.mesh_number.proofs.Powers.{next_power}

-- a finite binary32 by its sign, its significand and its place
pub record IsFloat (minus : Bool) (significand place : ℕ) (v : Fraction) : Type 0 where
  pub short : significand < 2 ^ 24
  pub is : v ≡ binary_value minus significand place 149

abbrev pub Float : Fraction → Type 0
Float v = (minus : Bool) × (significand : ℕ) × (place : ℕ) × IsFloat minus significand place v

parts : (minus : Bool) (exponent fraction : ℕ) (last least : Bool) (w : Fraction) → fraction < 2 ^ 23 →
    cond last None (cond least (Some (binary_value minus fraction 0 149))
    (Some (binary_value minus (2 ^ 23 + fraction) (exponent - 1) 149))) ≡ Some w → Float w
parts minus exponent fraction true least w l e = absurd (none-some w e)
parts minus exponent fraction false true w l e = (minus, fraction, 0, record { short = omega arith; is = sym (same_Some _ _ e) })
parts minus exponent fraction false false w l e = (minus, 2 ^ 23 + fraction, exponent - 1, record { short = omega arith; is = sym (same_Some _ _ e) })

-- each finite binary32 has them
pub float_parts : (bits : ℕ) (w : Fraction) → binary32_value bits ≡ Some w → Float w
float_parts bits w e = parts (eqb (bits / 2147483648) 1) (bits / 8388608 % 256) (bits % 8388608)
    (eqb (bits / 8388608 % 256) 255) (eqb (bits / 8388608 % 256) 0) w (omega arith) e

-- the bit of a sign
abbrev pub sign_bit : Bool → ℕ
sign_bit minus = cond minus 2147483648 0

sign_read : (minus : Bool) (rest bits : ℕ) → rest < 2147483648 → bits ≡ sign_bit minus + rest → eqb (bits / 2147483648) 1 ≡ minus
sign_read false rest bits l e = let q : bits / 2147483648 ≡ 0 = omega arith in rw q refl
sign_read true rest bits l e = let q : bits / 2147483648 ≡ 1 = omega arith in rw q refl

exponent_read : (minus : Bool) (exponent fraction bits : ℕ) → exponent < 256 → fraction < 8388608 →
    bits ≡ sign_bit minus + (exponent * 8388608 + fraction) → bits / 8388608 % 256 ≡ exponent
exponent_read false exponent fraction bits l h e = omega arith
exponent_read true exponent fraction bits l h e = omega arith

fraction_read : (minus : Bool) (exponent fraction bits : ℕ) → fraction < 8388608 →
    bits ≡ sign_bit minus + (exponent * 8388608 + fraction) → bits % 8388608 ≡ fraction
fraction_read false exponent fraction bits h e = omega arith
fraction_read true exponent fraction bits h e = omega arith

-- the value of sign, exponent and fraction
fields : (minus : Bool) (exponent fraction bits : ℕ) → exponent < 255 → fraction < 8388608 →
    bits ≡ sign_bit minus + (exponent * 8388608 + fraction) →
    binary32_value bits ≡ cond (eqb exponent 0) (Some (binary_value minus fraction 0 149))
    (Some (binary_value minus (2 ^ 23 + fraction) (exponent - 1) 149))
fields minus exponent fraction bits l h e =
    let last : eqb exponent 255 ≡ false = grind (arith, nat_tests) in
    rw (
      sign_read minus (exponent * 8388608 + fraction) bits (omega arith) e,
      exponent_read minus exponent fraction bits (omega arith) h e,
      fraction_read minus exponent fraction bits h e,
      last,
    ) refl

abbrev numbered : Bool → ℕ → Option Fraction
numbered minus n = Some (record { numerator = signed_whole minus n; denominator = 2 ^ 149 })

least_place : (minus : Bool) (place m bits : ℕ) → m < 8388608 → place ≡ 0 →
    bits ≡ sign_bit minus + (place * 8388608 + m) → binary32_value bits ≡ numbered minus (m * 2 ^ place)
least_place minus place m bits l z e = fields minus 0 m bits (omega arith) l (omega (arith, e, z)) ∙ ap (λ (k : ℕ). numbered minus (m * 2 ^ k)) (sym z)

full_significand : (minus : Bool) (place m bits : ℕ) → place ≤ 253 → 8388608 ≤ m → m < 16777216 →
    bits ≡ sign_bit minus + (place * 8388608 + m) → binary32_value bits ≡ numbered minus (m * 2 ^ place)
full_significand minus place m bits p l h e =
    let next : eqb (place + 1) 0 ≡ false = grind (arith, nat_tests) in
    let significand : 2 ^ 23 + (m - 8388608) ≡ m = omega arith in
    let exponent : place + 1 - 1 ≡ place = omega arith in
    fields minus (place + 1) (m - 8388608) bits (omega arith) (omega arith) (omega (arith, e, l)) ∙ rw (next, significand, exponent) refl

next_exponent : (minus : Bool) (place m bits : ℕ) → place < 253 → m ≡ 16777216 →
    bits ≡ sign_bit minus + (place * 8388608 + m) → binary32_value bits ≡ numbered minus (m * 2 ^ place)
next_exponent minus place m bits p s e =
    let next : eqb (place + 2) 0 ≡ false = grind (arith, nat_tests) in
    let exponent : place + 2 - 1 ≡ place + 1 = omega arith in
    let value : (2 ^ 23 + 0) * 2 ^ (place + 1) ≡ m * 2 ^ place = rw s (omega (arith, next_power place)) in
    fields minus (place + 2) 0 bits (omega arith) (omega arith) (omega (arith, e, s)) ∙ rw (next, exponent, value) refl

-- the value of a place and a significand, which may be the next power of two
pub joined_value : (minus : Bool) (place m bits : ℕ) → place ≤ 253 → m ≤ 16777216 → (0 < place → 8388608 ≤ m) →
    place * 8388608 + m < 255 * 8388608 → bits ≡ sign_bit minus + (place * 8388608 + m) →
    binary32_value bits ≡ numbered minus (m * 2 ^ place)
joined_value minus place m bits p top normal fits e =
    by_lt m 8388608
    (λ l. least_place minus place m bits l (by_lt 0 place (λ h. absurd (let k : 8388608 ≤ m = normal h in omega (arith, k, l))) (λ h. omega (arith, h))) e)
    (λ l. by_lt m 16777216 (λ h. full_significand minus place m bits p l h e) (λ h. next_exponent minus place m bits (omega arith) (omega arith) e))
