-- The floor of a number with a sign, from its size.
use Rattle.std.proofs.Common.{◌≡◌, ◌<◌, ℕ, zero, suc, Bool, true, false, cond, ltb, Some, None, ◌+◌, ◌-◌, ◌*◌, ◌/◌, ◌^◌}
use Rattle.std.proofs.Common.{pos, neg_ℤ, ◌*ℤ◌, refl, ◌∙◌, sym, ap, arith}
use borrow.Author.Differences.{ints}
use Rattle.std.specs.Int.{int_div_euclid}
use Rattle.std.specs.Int.RustNames.{unsigned_abs}
use Rattle.std.specs.Option.{option_map}
use Rattle.std.proofs.Math.Nat.{add-mul-div_right, div-eq_of_lt}
use Rattle.mesh_number.specs.Number.Fractions.{signed_whole, floor_times}
use Rattle.mesh_number.specs.Number.Quotients.{quotient, size_of_multiple}
use Rattle.mesh_number.proofs.Rounding.{quotient_of_zero}

-- the size of a number with a sign
pub unsigned_abs-signed_whole : (minus : Bool) (n : ℕ) → unsigned_abs (signed_whole minus n) ≡ n
unsigned_abs-signed_whole false n = refl
unsigned_abs-signed_whole true zero = refl
unsigned_abs-signed_whole true (suc n) = refl

times_signed : (minus : Bool) (m n : ℕ) → pos m *ℤ signed_whole minus n ≡ signed_whole minus (m * n)
times_signed false m n = omega (arith, ints)
times_signed true m zero = let none : m * 0 ≡ 0 = omega arith in rw none refl
times_signed true m (suc n) = refl

-- the floor of a quotient has the size of the quotient, rounded up if there is a minus
floor_signed : (minus : Bool) (n d : ℕ) → 0 < d → int_div_euclid (signed_whole minus n) (pos d) ≡ signed_whole minus (quotient minus n d)
floor_signed false n d p = refl
floor_signed true zero d p = ap (λ (n : ℕ). pos n) (div-eq_of_lt p) ∙ sym (ap (λ (n : ℕ). neg_ℤ (pos n)) (quotient_of_zero true d p))
floor_signed true (suc n) d p =
    let sums : suc n + (d - 1) ≡ n + 1 * d = omega arith in
    let next : n / d + 1 ≡ suc (n / d) = omega arith in
    let size : (suc n + (d - 1)) / d ≡ suc (n / d) = ap (λ (k : ℕ). k / d) sums ∙ add-mul-div_right n 1 p ∙ next in
    sym (ap (λ (k : ℕ). neg_ℤ (pos k)) size)

sign_last : (b minus : Bool) (n : ℕ) → cond b (Some (signed_whole minus n)) None ≡ option_map (signed_whole minus) (cond b (Some n) None)
sign_last true minus n = refl
sign_last false minus n = refl

-- what the size of a multiple gives once it has its sign
pub signed_multiple : (minus : Bool) (factor over under : ℕ) → 0 < under →
    floor_times factor (record { numerator = signed_whole minus over; denominator = under }) ≡ option_map
    (signed_whole minus) (size_of_multiple minus factor over under)
signed_multiple minus factor over under p =
    rw (unsigned_abs-signed_whole minus over, times_signed minus factor over, floor_signed minus (factor * over) under p)
    (sign_last (ltb over (10 ^ 15 * under)) minus (quotient minus (factor * over) under))
