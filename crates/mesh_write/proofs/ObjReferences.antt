-- The reference of a face to a vertex, written and read again
use Rattle.std.proofs.Common.{◌≡◌, ℕ, ◌+◌, ◌-◌, ◌<◌, ◌^◌, true, false, ◌&&◌, ltb, leb, List, [], ◌∷◌, Some, None, Ok, refl, ap, ◌∙◌, arith, decimal}
use Rattle.std.specs.Prelude.{if◌then◌else◌}
use Rattle.std.specs.List.{list_all}
use Rattle.std.specs.Char.{is_ascii_digit}
use Rattle.std.proofs.lemmas.Bool.Decides.{nat_tests}
use Rattle.std.proofs.lemmas.Bool.{and_parts}
use Rattle.ember_dec.specs.Digits.{number_from}
use Rattle.ember_dec.specs.Decimal.{is_minus}
use Rattle.ember_obj.specs.References.{is_slash, is_number, size_digits}
use Rattle.ember_obj.specs.Scan.{before}
use Rattle.mesh_read.specs.Scan.Parts.{Piece}
use Rattle.mesh_read.specs.Wavefront.ReadWavefront.{counted, vertex_at, corner_or_fault, corner_in}
use Rattle.mesh_write.proofs.Digits.{decimal_digits, decimal_number, decimal_some}
use Rattle.mesh_write.proofs.PlainTexts.{digit_no_minus}

digit_no_slash : (d : ℕ) → is_ascii_digit d ≡ true → is_slash d ≡ false
digit_no_slash d h = grind (arith, nat_tests)

digits_before_slash : (ds : List ℕ) → list_all is_ascii_digit ds ≡ true → before is_slash ds ≡ ds
digits_before_slash [] h = refl
digits_before_slash (d ∷ ds) h =
    let parts = and_parts (is_ascii_digit d) (list_all is_ascii_digit ds) h in
    rw (digit_no_slash d parts.0) (ap (λ l. d ∷ l) (digits_before_slash ds parts.1))

digits_without_minus : (ds : List ℕ) → list_all is_ascii_digit ds ≡ true → is_minus ds ≡ false
digits_without_minus [] h = refl
digits_without_minus (d ∷ ds) h = digit_no_minus d (and_parts (is_ascii_digit d) (list_all is_ascii_digit ds) h).0

digits_of_size : (ds : List ℕ) → list_all is_ascii_digit ds ≡ true → size_digits ds ≡ ds
digits_of_size [] h = refl
digits_of_size (d ∷ ds) h = rw (digit_no_minus d (and_parts (is_ascii_digit d) (list_all is_ascii_digit ds) h).0) refl

counted_ok : (v k : ℕ) → k < v → counted v false (k + 1) ≡ Some k
counted_ok v k small =
    let some : ltb 0 (k + 1) ≡ true = grind (arith, nat_tests) in
    let within : leb (k + 1) v ≡ true = grind (arith, nat_tests) in
    let back : k + 1 - 1 ≡ k = omega arith in
    rw (some, within, back) refl

vertex_ok : (v k : ℕ) → k < v → v < 2 ^ 64 → vertex_at v (decimal (k + 1)) ≡ Some k
vertex_ok v k small few =
    let text = decimal (k + 1) in
    let fits : k + 1 < 2 ^ 64 = omega (arith, small, few) in
    let digits = decimal_digits (k + 1) fits in
    let size = digits_of_size text digits in
    let number : is_number (size_digits text) ≡ true =
    ap is_number size ∙ ap (λ b. b && list_all is_ascii_digit text) (decimal_some (k + 1) fits) ∙ digits in
    let spelled : number_from 0 (size_digits text) ≡ k + 1 = ap (number_from 0) size ∙ decimal_number (k + 1) fits in
    let forward = digits_without_minus text digits in
    ap (λ b. if b then counted v (is_minus text) (number_from 0 (size_digits text)) else None) number
    ∙ ap (λ b. counted v b (number_from 0 (size_digits text))) forward ∙ ap (counted v false) spelled ∙ counted_ok v k small

pub reference_ok : (line v k : ℕ) (word : Piece) → k < v → v < 2 ^ 64 → word.text ≡ decimal (k + 1) → corner_in line v word ≡ Ok k
reference_ok line v k word small few e =
    let digits = decimal_digits (k + 1) (omega (arith, small, few)) in
    ap (λ (l : List ℕ). corner_or_fault line word (vertex_at v (before is_slash l))) e
    ∙ ap (λ (l : List ℕ). corner_or_fault line word (vertex_at v l)) (digits_before_slash (decimal (k + 1)) digits)
    ∙ ap (corner_or_fault line word) (vertex_ok v k small few)
