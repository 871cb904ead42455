-- Texts of digits, points and minuses
use Rattle.std.proofs.Common.{◌≡◌, ℕ, ◌≤◌, true, false, ◌||◌, ◌==◌, List, [], ◌∷◌, ◌++◌, Some, refl, ap, arith}
use Rattle.std.specs.Prelude.{All}
use Rattle.std.specs.List.{list_all}
use Rattle.std.specs.Char.{is_ascii_digit}
use Rattle.std.proofs.lemmas.Bool.Decides.{nat_tests}
use Rattle.std.proofs.lemmas.List.Elements.{All-cons, All-head, All-tail, All-nil}
use Rattle.std.proofs.lemmas.Bool.{and_parts}
use Rattle.ember_dec.specs.Decimal.{is_minus, unsigned, before_point, behind_point}
use Rattle.mesh_number.specs.declared.number.values.Exponent.{Exponent}
use Rattle.mesh_number.specs.Number.Texts.{begins_exponent, mantissa, exponent_of}

-- from `-` to `9`
pub record IsPlain (b : ℕ) : Type 0 where
  pub low : 45 ≤ b
  pub high : b ≤ 57

abbrev pub no_exponent : Exponent
no_exponent = record { minus = false; size = 0 }

-- ---- plain texts
digit_plain : (d : ℕ) → is_ascii_digit d ≡ true → IsPlain d
digit_plain d h = record { low = grind (arith, nat_tests); high = grind (arith, nat_tests) }

pub digits_plain : (ds : List ℕ) → list_all is_ascii_digit ds ≡ true → All IsPlain ds
digits_plain [] h = All-nil IsPlain
digits_plain (d ∷ ds) h =
    let parts = and_parts (is_ascii_digit d) (list_all is_ascii_digit ds) h in
    All-cons IsPlain d ds (digit_plain d parts.0) (digits_plain ds parts.1)

plain_begins_none : (b : ℕ) → IsPlain b → begins_exponent b ≡ false
plain_begins_none b h = grind (arith, nat_tests, h.high)

pub plain_mantissa : (bs : List ℕ) → All IsPlain bs → mantissa bs ≡ bs
plain_mantissa [] h = refl
plain_mantissa (b ∷ bs) h =
    rw (plain_begins_none b (All-head IsPlain b bs h)) (ap (λ l. b ∷ l) (plain_mantissa bs (All-tail IsPlain b bs h)))

pub plain_exponent : (bs : List ℕ) → All IsPlain bs → exponent_of bs ≡ Some no_exponent
plain_exponent [] h = refl
plain_exponent (b ∷ bs) h =
    rw (plain_begins_none b (All-head IsPlain b bs h)) (plain_exponent bs (All-tail IsPlain b bs h))

-- ---- digits at the front
digit_no_point : (d : ℕ) → is_ascii_digit d ≡ true → d == 46 ≡ false
digit_no_point d h = grind (arith, nat_tests)

digit_no_sign : (d : ℕ) → is_ascii_digit d ≡ true → (d == 43 || d == 45) ≡ false
digit_no_sign d h = grind (arith, nat_tests)

pub digit_no_minus : (d : ℕ) → is_ascii_digit d ≡ true → d == 45 ≡ false
digit_no_minus d h = grind (arith, nat_tests)

pub digits_before : (ds t : List ℕ) → list_all is_ascii_digit ds ≡ true → before_point (ds ++ t) ≡ ds ++ before_point t
digits_before [] t h = refl
digits_before (d ∷ ds) t h =
    let parts = and_parts (is_ascii_digit d) (list_all is_ascii_digit ds) h in
    rw (digit_no_point d parts.0) (ap (λ l. d ∷ l) (digits_before ds t parts.1))

pub digits_behind : (ds t : List ℕ) → list_all is_ascii_digit ds ≡ true → behind_point (ds ++ t) ≡ behind_point t
digits_behind [] t h = refl
digits_behind (d ∷ ds) t h =
    let parts = and_parts (is_ascii_digit d) (list_all is_ascii_digit ds) h in
    rw (digit_no_point d parts.0) (digits_behind ds t parts.1)

pub digit_unsigned : (d : ℕ) (bs : List ℕ) → is_ascii_digit d ≡ true → unsigned (d ∷ bs) ≡ d ∷ bs
digit_unsigned d bs h = rw (digit_no_sign d h) refl

pub digit_is_no_minus : (d : ℕ) (bs : List ℕ) → is_ascii_digit d ≡ true → is_minus (d ∷ bs) ≡ false
digit_is_no_minus d bs h = digit_no_minus d h
