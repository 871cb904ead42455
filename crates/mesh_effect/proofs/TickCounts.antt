-- Ticks of a distance, as the code finds them.
use Rattle.std.proofs.Common.{◌≡◌, ◌≤◌, ◌<◌, true, ℕ, ◌+◌, ◌-◌, ◌*◌, ◌^◌, sym, ap, ◌∙◌, mul-le-mul, mul-pos, arith}
use Rattle.std.proofs.lemmas.Nat.{pow_pos, pow-add}
use Rattle.std.proofs.Math.Nat.{one-le-pow}
use Rattle.mesh_number.specs.Number.Fractions.{Fraction}
use Rattle.mesh_number.specs.Number.Quotients.{quotient}
use Rattle.mesh_number.specs.Float.Binary32.{distance}
use Rattle.mesh_number.proofs.Powers.{power_split}
use Rattle.mesh_effect.specs.Rounding.Ticks.{ticks_between, power_tick, decimal_tick}
use Rattle.mesh_effect.proofs.Above.{same_quotient, quotient_of_quotient, quotient_most}

module _ (e d shift : ℕ) (p : 0 < d) (within : e ≤ d * 2 ^ shift) where
  unit_positive : 0 < d * 2 ^ shift
  unit_positive = mul-pos p (pow_pos shift)

  pub few_ticks : quotient true (e * 2 ^ 62) (d * 2 ^ shift) ≤ 2 ^ 62
  few_ticks = quotient_most (e * 2 ^ 62) (d * 2 ^ shift) (2 ^ 62) unit_positive (omega (arith, within))

  -- ---- a unit of at most 2^62 parts
  pub raised_most : shift ≤ 62 → e * 2 ^ (62 - shift) ≤ d * 2 ^ 62
  raised_most l =
      let split : 2 ^ 62 ≡ 2 ^ (62 - shift) * 2 ^ shift = power_split shift 62 l in
      let most : e * 2 ^ (62 - shift) ≤ d * 2 ^ shift * 2 ^ (62 - shift) = mul-le-mul within (omega arith) in
      let same : d * 2 ^ shift * 2 ^ (62 - shift) ≡ d * (2 ^ (62 - shift) * 2 ^ shift) = omega arith in
      let whole : d * (2 ^ (62 - shift) * 2 ^ shift) ≡ d * 2 ^ 62 = ap (λ (k : ℕ). d * k) (sym split) in
      omega (arith, most, same, whole)

  pub low_ticks : shift ≤ 62 → quotient true (e * 2 ^ (62 - shift)) d ≡ quotient true (e * 2 ^ 62) (d * 2 ^ shift)
  low_ticks l =
      let split : 2 ^ 62 ≡ 2 ^ (62 - shift) * 2 ^ shift = power_split shift 62 l in
      let first : e * 2 ^ (62 - shift) * (d * 2 ^ shift) ≡ e * d * (2 ^ (62 - shift) * 2 ^ shift) = omega arith in
      let whole : e * d * (2 ^ (62 - shift) * 2 ^ shift) ≡ e * d * 2 ^ 62 = ap (λ (k : ℕ). e * d * k) (sym split) in
      let last : e * d * 2 ^ 62 ≡ e * 2 ^ 62 * d = omega arith in
      same_quotient (e * 2 ^ (62 - shift)) d (e * 2 ^ 62) (d * 2 ^ shift) p unit_positive (first ∙ whole ∙ last)

  -- ---- and of more
  pub high_ticks : 62 < shift → quotient true (quotient true e d) (2 ^ (shift - 62)) ≡ quotient true (e * 2 ^ 62) (d * 2 ^ shift)
  high_ticks l =
      let split : 2 ^ shift ≡ 2 ^ (shift - 62) * 2 ^ 62 = power_split 62 shift (omega (arith, l)) in
      let part = pow_pos (shift - 62) in
      let whole : e * (d * 2 ^ shift) ≡ e * (d * (2 ^ (shift - 62) * 2 ^ 62)) = ap (λ (k : ℕ). e * (d * k)) split in
      let last : e * (d * (2 ^ (shift - 62) * 2 ^ 62)) ≡ e * 2 ^ 62 * (d * 2 ^ (shift - 62)) = omega arith in
      quotient_of_quotient e d (2 ^ (shift - 62)) p part
      ∙ same_quotient e (d * 2 ^ (shift - 62)) (e * 2 ^ 62) (d * 2 ^ shift) (mul-pos p part) unit_positive (whole ∙ last)

-- ---- ticks between two numbers
powers : (top g shift : ℕ) → g + shift ≡ top → 2 ^ 62 * (2 ^ 149 * 2 ^ (top - 211)) ≡ 2 ^ (211 - top) * (2 ^ g * 2 ^ shift)
powers top g shift e =
    let up : 2 ^ (211 + (top - 211)) ≡ 2 ^ 211 * 2 ^ (top - 211) = pow-add 2 211 (top - 211) in
    let both : 211 + (top - 211) ≡ (211 - top) + (g + shift) = omega (arith, e) in
    let down : 2 ^ ((211 - top) + (g + shift)) ≡ 2 ^ (211 - top) * 2 ^ (g + shift) = pow-add 2 (211 - top) (g + shift) in
    let last : 2 ^ (g + shift) ≡ 2 ^ g * 2 ^ shift = pow-add 2 g shift in
    let first : 2 ^ 62 * (2 ^ 149 * 2 ^ (top - 211)) ≡ 2 ^ 211 * 2 ^ (top - 211) = omega arith in
    first ∙ sym up ∙ ap (λ (k : ℕ). 2 ^ k) both ∙ down ∙ ap (λ (k : ℕ). 2 ^ (211 - top) * k) last

-- from an error in units of a power
pub float_ticks_are : (top g shift e : ℕ) (v w : Fraction) → 0 < v.denominator → w.denominator ≡ 2 ^ 149 →
    g + shift ≡ top → e * 2 ^ g ≡ distance v.numerator v.denominator w →
    quotient true (e * 2 ^ 62) (v.denominator * 2 ^ shift) ≡ ticks_between (power_tick top) v w
float_ticks_are top g shift e v w p under sum is =
    let d = v.denominator in
    let far = distance v.numerator d w in
    let some : 0 < d * w.denominator * 2 ^ (top - 211) = mul-pos (mul-pos p (rw under (omega arith))) (pow_pos (top - 211)) in
    let first : e * 2 ^ 62 * (d * w.denominator * 2 ^ (top - 211)) ≡ e * d * (2 ^ 62 * (2 ^ 149 * 2 ^ (top - 211))) = rw under (omega arith) in
    let middle : e * d * (2 ^ 62 * (2 ^ 149 * 2 ^ (top - 211))) ≡ e * d * (2 ^ (211 - top) * (2 ^ g * 2 ^ shift)) =
    ap (λ (k : ℕ). e * d * k) (powers top g shift sum) in
    let last : e * d * (2 ^ (211 - top) * (2 ^ g * 2 ^ shift)) ≡ 2 ^ (211 - top) * (e * 2 ^ g) * (d * 2 ^ shift) = omega arith in
    let end : 2 ^ (211 - top) * (e * 2 ^ g) * (d * 2 ^ shift) ≡ 2 ^ (211 - top) * far * (d * 2 ^ shift) =
    ap (λ (k : ℕ). 2 ^ (211 - top) * k * (d * 2 ^ shift)) is in
    same_quotient (e * 2 ^ 62) (d * 2 ^ shift) (2 ^ (211 - top) * far) (d * w.denominator * 2 ^ (top - 211))
    (mul-pos p (pow_pos shift)) some (first ∙ middle ∙ last ∙ end)

-- from an error in units of the last place
pub decimal_ticks_are : (places e : ℕ) (v w : Fraction) → 0 < v.denominator → w.denominator ≡ 10 ^ places →
    e ≡ distance v.numerator v.denominator w → quotient true (e * 2 ^ 62) (v.denominator * 2 ^ 0) ≡ ticks_between
    (decimal_tick places) v w
decimal_ticks_are places e v w p under is =
    let d = v.denominator in
    let far = distance v.numerator d w in
    let ten : 0 < 10 ^ places = one-le-pow places 10 (omega arith) in
    let some : 0 < d * w.denominator * 1 = mul-pos (mul-pos p (rw under ten)) (omega arith) in
    let first : e * 2 ^ 62 * (d * w.denominator * 1) ≡ 2 ^ 62 * 10 ^ places * e * (d * 2 ^ 0) = rw under (omega arith) in
    let last : 2 ^ 62 * 10 ^ places * e * (d * 2 ^ 0) ≡ 2 ^ 62 * 10 ^ places * far * (d * 2 ^ 0) = ap (λ (k : ℕ). 2 ^ 62 * 10 ^ places * k * (d * 2 ^ 0)) is in
    same_quotient (e * 2 ^ 62) (d * 2 ^ 0) (2 ^ 62 * 10 ^ places * far) (d * w.denominator * 1) (omega (arith, p)) some (first ∙ last)
