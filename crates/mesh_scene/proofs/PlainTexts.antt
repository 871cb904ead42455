-- Texts of digits, points and slashes, which stand in JSON as they are
use Rattle.std.proofs.Common.{◌≡◌, ℕ, zero, suc, ◌+◌, ◌*◌, ◌/◌, ◌%◌, ◌^◌, ◌<◌, Bool, true, false, cond, List, []}
use Rattle.std.proofs.Common.{◌∷◌, ◌++◌, get_or, IsUtf8, refl, ap₂, arith, decimal}
use Rattle.std.specs.Prelude.{All, ◌==◌, codes}
use Rattle.std.proofs.lemmas.Fmt.{decimal_is_IsNumeral_wide}
use Rattle.std.proofs.lemmas.List.Elements.{All-cons, All-head, All-tail, All-nil, All-append, All-from_get_or}
use Rattle.std.proofs.lemmas.Str.{IsUtf8-from_ascii}
use Rattle.std.proofs.lemmas.Str.Parse.{digit_at}
use Rattle.std.proofs.Math.Nat.{div-le_self, div-lt_iff_lt-mul, mod-lt, pow-suc}
use Rattle.json.specs.Print.{escape}
use Rattle.json.proofs.Printed.Strings.{escape_byte_plain}
use Rattle.mesh_number.specs.Round.Decimals.{fraction_digits, fraction_text}
use Rattle.mesh_number.proofs.Digits.{power_of_10_positive}
use Rattle.mesh_write.proofs.PlainTexts.{IsPlain}
use Rattle.mesh_grid.specs.declared.moves.length.Length.{Length}
use Rattle.mesh_grid.specs.declared.snap.steps.GridStep.{GridStep}
use Rattle.mesh_grid.specs.Snap.Steps.{IsStep}
use Rattle.mesh_scene.specs.SceneFile.Fractions.{fraction_text as step_text}
use Rattle.mesh_scene.specs.SceneFile.Texts.{move_text}

-- ---- plain texts in JSON
pub plain_escape : (s : List ℕ) → All IsPlain s → escape s ≡ s
plain_escape [] h = refl
plain_escape (b ∷ bs) h =
    let first = All-head IsPlain b bs h in
    ap₂ (λ (xs ys : List ℕ). xs ++ ys)
    (escape_byte_plain b (λ e. omega (arith, first.low, first.high)) (λ e. omega (arith, first.high)) (omega (arith, first.low)))
    (plain_escape bs (All-tail IsPlain b bs h))

plain_ascii : (s : List ℕ) → All IsPlain s → (i : ℕ) → get_or s i 0 < 128
plain_ascii [] h i = omega arith
plain_ascii (b ∷ bs) h zero = omega (arith, (All-head IsPlain b bs h).high)
plain_ascii (b ∷ bs) h (suc i) = plain_ascii bs (All-tail IsPlain b bs h) i

pub plain_utf8 : (s : List ℕ) → All IsPlain s → IsUtf8 s
plain_utf8 s h = IsUtf8-from_ascii s (plain_ascii s h)

-- ---- numbers
decimal_plain : (n : ℕ) → n < 10 ^ 64 → All IsPlain (decimal n)
decimal_plain n small =
    All-from_get_or IsPlain (decimal n) 0 (λ i l.
    let digit = digit_at (decimal n) i (decimal_is_IsNumeral_wide n small).0.1 l in
    record { low = omega (arith, digit.0); high = omega (arith, digit.1) })

one_digit : (n p : ℕ) → 0 < p → n < p * 10 → IsPlain (48 + n / p)
one_digit n p positive below =
    let small : n / p < 10 = (div-lt_iff_lt-mul positive).1 (omega arith) in
    record { low = omega arith; high = omega (arith, small) }

digits_plain : (places part : ℕ) → part < 10 ^ places → All IsPlain (fraction_digits places part)
digits_plain zero part h = All-nil IsPlain
digits_plain (suc places) zero h = All-nil IsPlain
digits_plain (suc places) (suc n) h =
    let positive = power_of_10_positive places in
    let raised = pow-suc 10 places in
    All-cons IsPlain _ _ (one_digit (suc n) (10 ^ places) positive (omega (arith, h, raised)))
    (digits_plain places (suc n % 10 ^ places) (mod-lt (suc n) positive))

if_plain : (b : Bool) (xs ys : List ℕ) → All IsPlain xs → All IsPlain ys → All IsPlain (cond b xs ys)
if_plain true xs ys h k = h
if_plain false xs ys h k = k

point_plain : (places part : ℕ) → part < 10 ^ places → All IsPlain (fraction_text places part)
point_plain places part h =
    if_plain (part == 0) [] (46 ∷ fraction_digits places part) (All-nil IsPlain)
    (All-cons IsPlain 46 _ (record { low = omega arith; high = omega arith }) (digits_plain places part h))

quotient_small : (n p : ℕ) → n < 2 ^ 127 → n / p < 10 ^ 64
quotient_small n p small = omega (arith, div-le_self n p, small)

pub move_plain : (l : Length) → All IsPlain (move_text l)
move_plain l =
    let positive = power_of_10_positive l.places in
    All-append IsPlain _ _ (decimal_plain _ (quotient_small l.size (10 ^ l.places) l.small)) (point_plain l.places _ (mod-lt l.size positive))

pub step_plain : (s : GridStep) → IsStep s → All IsPlain (step_text s)
step_plain s h =
    All-append IsPlain _ _ (decimal_plain _ (below h.numerator_small))
    (All-append IsPlain (codes "/") _ (All-cons IsPlain 47 [] (record { low = omega arith; high = omega arith })
    (All-nil IsPlain)) (decimal_plain _ (below h.denominator_small)))
  where
    below : {n : ℕ} → n < 2 ^ 40 → n < 10 ^ 64
    below small = omega (arith, small)
