-- The parts of a float's bits.
use Rattle.std.proofs.Common.{◌≡◌, ◌≢◌, ℕ, ◌+◌, ◌-◌, ◌/◌, ◌%◌, ◌^◌, ◌<◌, ◌≤◌, Bool, true, false, cond, eqb, Some, None, refl, sym, ap, ◌∙◌, arith}
use Rattle.std.proofs.lemmas.Bool.Decides.{nat_tests}
use Rattle.std.proofs.lemmas.Option.{none-some, same_Some}
use Rattle.mesh_number.specs.Number.Fractions.{Fraction}
use Rattle.mesh_number.specs.Number.Floats.{binary32_value}
use Rattle.mesh_number.specs.Number.Values.{binary_value}
use Rattle.mesh_effect.specs.Rounding.Floats.{is_below_zero, significand_of, last_place}

-- a finite float by its sign, its significand and its place
pub record IsFloatAt (minus : Bool) (significand place : ℕ) (v : Fraction) : Type 0 where
  pub is : v ≡ binary_value minus significand place 149
  pub short : significand < 2 ^ 24
  pub place_most : place ≤ 253
  pub normal : 0 < place → 2 ^ 23 ≤ significand

parts : (minus : Bool) (exponent fraction : ℕ) (last least : Bool) (w : Fraction) → fraction < 8388608 →
    exponent < 256 → eqb exponent 255 ≡ last → eqb exponent 0 ≡ least →
    cond last None (cond least (Some (binary_value minus fraction 0 149))
    (Some (binary_value minus (2 ^ 23 + fraction) (exponent - 1) 149))) ≡ Some w →
    IsFloatAt minus (cond least fraction (2 ^ 23 + fraction)) (exponent - 1) w
parts minus exponent fraction true least w l k f z e = absurd (none-some w e)
parts minus exponent fraction false true w l k f z e =
    let none : exponent ≡ 0 = grind (arith, nat_tests) in
    let least : 0 ≡ exponent - 1 = omega (arith, none) in
    record {
      is = sym (same_Some _ _ e) ∙ ap (λ (p : ℕ). binary_value minus fraction p 149) least;
      short = omega (arith, l);
      place_most = omega (arith, none);
      normal = λ h. absurd (omega (arith, h, none));
    }
parts minus exponent fraction false false w l k f z e =
    let not_last : exponent ≢ 255 = λ s. absurd (grind (arith, nat_tests)) in
    record {
      is = sym (same_Some _ _ e);
      short = omega (arith, l);
      place_most = omega (arith, k, not_last);
      normal = λ h. omega arith;
    }

pub float_at : (bits : ℕ) (w : Fraction) → binary32_value bits ≡ Some w → IsFloatAt (is_below_zero bits) (significand_of bits) (last_place bits) w
float_at bits w e = parts (eqb (bits / 2147483648) 1) (bits / 8388608 % 256) (bits % 8388608)
    (eqb (bits / 8388608 % 256) 255) (eqb (bits / 8388608 % 256) 0) w (omega arith) (omega arith) refl refl e
