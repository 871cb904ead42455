-- Numbers as words of a line
use Rattle.std.proofs.Common.{ℕ, ◌/◌, ◌%◌, ◌^◌, ◌<◌, ◌≤◌, Bool, true, false, List, [], ◌∷◌, ◌++◌, length, ℤ, pos, refl, arith, decimal}
use Rattle.std.specs.Prelude.{All, if◌then◌else◌, int_lt, unsigned_abs}
use Rattle.std.proofs.lemmas.Bool.Decides.{nat_tests}
use Rattle.std.proofs.lemmas.Fmt.{decimal_nonempty}
use Rattle.std.proofs.lemmas.List.Elements.{All-cons, All-nil, All-append, All-weaker}
use Rattle.std.proofs.Math.Nat.{mod-lt}
use Rattle.mesh_write.specs.Text.Lines.{coordinate_text}
use Rattle.mesh_number.proofs.DigitNumbers.{pow_ten_pos}
use Rattle.mesh_number.specs.Round.Decimals.{fraction_text, sign_text}
use Rattle.mesh_write.specs.declared.vertices.point.DecimalPoint.{DecimalPoint}
use Rattle.mesh_write.specs.declared.vertices.point.IndexedTriangle.{IndexedTriangle}
use Rattle.mesh_write.specs.Reading.Readings.{IsBelow, IsPointBelow, IsWithin}
use Rattle.mesh_write.proofs.Digits.{decimal_digits}
use Rattle.mesh_write.proofs.FractionDigits.{fraction_places}
use Rattle.mesh_write.proofs.PlainTexts.{IsPlain, digits_plain}
use Rattle.mesh_write.proofs.DecimalTexts.{fraction_tail}
use Rattle.mesh_write.proofs.Sizes.{whole_small}
use Rattle.mesh_write.proofs.Lines.{IsInWord, IsWord, literal_word, two_words, three_words}

plain_in_word : (b : ℕ) → IsPlain b → IsInWord b
plain_in_word b h = record { above = omega (arith, h.low); no_backslash = grind (arith, nat_tests, h.high) }

plain_word : (text : List ℕ) → 0 < length text → All IsPlain text → IsWord text
plain_word text some h = record { some = some; bytes = All-weaker IsPlain IsInWord plain_in_word text h }

pub number_word : (n : ℕ) → n < 2 ^ 64 → IsWord (decimal n)
number_word n small = plain_word (decimal n) (decimal_nonempty n small) (digits_plain (decimal n) (decimal_digits n small))

minus_plain : (minus : Bool) → All IsPlain (if minus then 45 ∷ [] else [])
minus_plain false = All-nil IsPlain
minus_plain true = All-cons IsPlain 45 [] (record { low = omega arith; high = omega arith }) (All-nil IsPlain)

behind_some : (xs ys : List ℕ) → 0 < length ys → 0 < length (xs ++ ys)
behind_some [] ys h = h
behind_some (x ∷ xs) ys h = omega arith

front_some : (xs ys : List ℕ) → 0 < length xs → 0 < length (xs ++ ys)
front_some [] ys h = absurd (omega (arith, h))
front_some (x ∷ xs) ys h = omega arith

pub coordinate_word : (places : ℕ) (units : ℤ) → IsBelow places units → IsWord (coordinate_text places units)
coordinate_word places units h =
    let size = unsigned_abs units in
    let w = size / 10 ^ places in
    let part = size % 10 ^ places in
    let wide : w < 2 ^ 64 = omega (arith, whole_small size places h) in
    let tail = fraction_tail places part (fraction_places places part (mod-lt size (pow_ten_pos places))).digits in
    plain_word (coordinate_text places units)
    (behind_some (sign_text (int_lt units (pos 0)) size) (decimal w ++ fraction_text places part)
    (front_some (decimal w) (fraction_text places part) (decimal_nonempty w wide)))
    (All-append IsPlain (sign_text (int_lt units (pos 0)) size) (decimal w ++ fraction_text places part) (minus_plain _)
    (All-append IsPlain (decimal w) (fraction_text places part) (digits_plain (decimal w) (decimal_digits w wide)) tail.plain))

-- ---- the words of a vertex and of a triangle
-- behind its first coordinate
abbrev pub other_coordinates : ℕ → DecimalPoint → List (List ℕ)
other_coordinates places p = coordinate_text places p.y ∷ coordinate_text places p.z ∷ []

pub other_coordinates_words : (places : ℕ) (p : DecimalPoint) → IsPointBelow places p → All IsWord (other_coordinates places p)
other_coordinates_words places p h =
    two_words (coordinate_text places p.y) (coordinate_text places p.z) (coordinate_word places p.y h.y) (coordinate_word places p.z h.z)

-- the number of its corners
pub three_word : IsWord (51 ∷ [])
three_word = literal_word (51 ∷ []) refl (omega arith)

-- behind it
abbrev pub index_texts : IndexedTriangle → List (List ℕ)
index_texts t = decimal t.a ∷ decimal t.b ∷ decimal t.c ∷ []

pub index_words : (v : ℕ) (t : IndexedTriangle) → v ≤ 2 ^ 64 → IsWithin v t → All IsWord (index_texts t)
index_words v t few h =
    three_words (decimal t.a) (decimal t.b) (decimal t.c) (number_word t.a (omega (arith, few, h.a)))
    (number_word t.b (omega (arith, few, h.b))) (number_word t.c (omega (arith, few, h.c)))
