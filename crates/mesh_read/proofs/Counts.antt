-- Vertices by their numbers
use Rattle.std.proofs.Common.{◌≡◌, ℕ, Bool, true, false, ◌<◌, List, min, refl, sym, ap, ◌∙◌, arith, Option, None, Some, inl, inr}
use Rattle.std.specs.Prelude.{◌&&◌, if◌then◌else◌, nat_lt, nat_le}
use Rattle.std.specs.Option.{option_map}
use Rattle.std.proofs.lemmas.Bool.{cases_Bool, leb-true, leb-false}
use Rattle.ember_dec.specs.Digits.{number_from}
use Rattle.ember_obj.specs.References.{is_number}
use Rattle.mesh_number.specs.Number.Naturals.{number_of}
use Rattle.mesh_read.specs.Wavefront.ReadWavefront.{counted}

and_false : (b : Bool) → (b && false) ≡ false
and_false true = refl
and_false false = refl

-- no vertex has a number above their count
counted_past : (vertices : ℕ) (back : Bool) (number : ℕ) → vertices < number → counted vertices back number ≡ None
counted_past vertices back number past =
    elim (cases_Bool (nat_le number vertices)) [
      | inl h ↦ absurd (omega (arith, leb-true number vertices h))
      | inr h ↦ rw (h, and_false (nat_lt 0 number)) refl
    ]

-- a number may be cut down to a limit above the count of vertices
counted_capped : (limit vertices : ℕ) (back : Bool) (number : ℕ) → vertices < limit →
    counted vertices back (min limit number) ≡ counted vertices back number
counted_capped limit vertices back number few =
    elim (cases_Bool (nat_le number limit)) [
      | inl h ↦ let same : min limit number ≡ number = omega (arith, leb-true number limit h) in ap (counted vertices back) same
      | inr h ↦ counted_past vertices back (min limit number) (omega (arith, leb-false number limit h))
          ∙ sym (counted_past vertices back number (omega (arith, leb-false number limit h)))
    ]

number_is : (digits : List ℕ) → is_number digits ≡ true → number_of digits ≡ Some (number_from 0 digits)
number_is digits h = rw h refl

is_no_number : (digits : List ℕ) → is_number digits ≡ false → number_of digits ≡ None
is_no_number digits h = rw h refl

-- the vertex of a number that was read with a limit
pub number_counted : (limit vertices n : ℕ) (back : Bool) (digits : List ℕ) → vertices < limit →
    Some n ≡ option_map (min limit) (number_of digits) →
    (if is_number digits then counted vertices back (number_from 0 digits) else None) ≡ counted vertices back n
number_counted limit vertices n back digits few is =
    elim (cases_Bool (is_number digits)) [
      | inl h ↦
          let same : n ≡ min limit (number_from 0 digits) = let e = number_is digits h in cc in
          rw h (sym (counted_capped limit vertices back (number_from 0 digits) few) ∙ ap (counted vertices back) (sym same))
      | inr h ↦ let e = is_no_number digits h in cc
    ]

-- what is no number names no vertex
pub no_number : (limit vertices : ℕ) (back : Bool) (digits : List ℕ) → None ≡ option_map (min limit) (number_of digits) →
    (if is_number digits then counted vertices back (number_from 0 digits) else None) ≡ None
no_number limit vertices back digits is =
    elim (cases_Bool (is_number digits)) [
      | inl h ↦ let e = number_is digits h in cc
      | inr h ↦ rw h refl
    ]
