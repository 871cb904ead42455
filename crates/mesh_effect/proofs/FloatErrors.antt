-- A nearest float is less than its last bit away.
use Rattle.std.proofs.Common.{◌≡◌, ℕ, ◌+◌, ◌-◌, ◌*◌, ◌^◌, ◌<◌, ◌≤◌, Bool, true, false, Some, ℤ, pos, negsuc}
use Rattle.std.proofs.Common.{unsigned_abs, subst, mul-le-mul, refl, sym, ap, ◌∙◌, arith}
use Rattle.std.specs.Prelude.{not}
use Rattle.std.proofs.lemmas.Nat.{pow_pos}
use Rattle.mesh_number.specs.Number.Fractions.{Fraction, signed_whole}
use Rattle.mesh_number.specs.Number.Floats.{binary32_value}
use Rattle.mesh_number.proofs.Rounding.{by_lt}
use Rattle.mesh_number.specs.Float.Binary32.{IsNearestBinary32, distance}
use Rattle.mesh_number.proofs.Distances.{gap}
use Rattle.mesh_number.proofs.Powers.{next_power, product_positive}
use Rattle.mesh_number.proofs.Signs.{distance_same, distance_other}
use Rattle.mesh_number.proofs.Bits.{joined_value, sign_bit}
use Rattle.mesh_number.proofs.NearestFloats.{number}
use Rattle.mesh_effect.specs.Rounding.Floats.{is_below_zero, significand_of, last_place}
use Rattle.mesh_effect.proofs.FloatBits.{IsFloatAt, float_at}

-- ---- a number x, to which a is at least as near as b
above_next : (x a b : ℕ) → a < b → gap x a ≤ gap x b → x ≤ b
unfolding gap
above_next x a b l near = omega (arith, l, near)

below_next : (x a b : ℕ) → b < a → gap x a ≤ gap x b → b ≤ x
unfolding gap
below_next x a b l near = omega (arith, l, near)

within : (x a u : ℕ) → x ≤ a + u → a ≤ x + u → gap x a ≤ u
unfolding gap
within x a u l h = omega (arith, l, h)

near_zero : (x b : ℕ) → 0 < b → x ≤ gap x b → x ≤ b
unfolding gap
near_zero x b p h = omega (arith, p, h)

one_more : (q m u d : ℕ) → m ≡ q + 1 → m * u * d ≡ q * u * d + u * d
one_more q m u d e = rw e (omega arith)

-- no number reaches the power behind the last place
last_of_all : (k d m : ℕ) → k < (2 ^ 128 - 2 ^ 103) * d → m + 1 ≡ 16777216 → k * 2 ^ 149 ≤ m * 2 ^ 253 * d + 2 ^ 253 * d
last_of_all k d m l e =
    let same : m * 2 ^ 253 * d + 2 ^ 253 * d ≡ (m + 1) * 2 ^ 253 * d = omega arith in
    rw (same, e) (omega (arith, l))

module _ (minus : Bool) (k d p m : ℕ) (v : Fraction) (pos_d : 0 < d) (below : k < (2 ^ 128 - 2 ^ 103) * d)
    (at : IsFloatAt minus m p v) (near : (other : ℕ) (w : Fraction) → binary32_value other ≡ Some w →
    distance (signed_whole minus k) d v ≤ distance (signed_whole minus k) d w) where
  distance_is : distance (signed_whole minus k) d v ≡ gap (k * 2 ^ 149) (m * 2 ^ p * d)
  distance_is = ap (λ (w : Fraction). distance (signed_whole minus k) d w) at.is ∙ distance_same minus k d (m * 2 ^ p) (2 ^ 149)

  than_other : (q s : ℕ) → q ≤ 253 → s ≤ 16777216 → (0 < q → 8388608 ≤ s) → q * 8388608 + s < 255 * 8388608 →
      gap (k * 2 ^ 149) (m * 2 ^ p * d) ≤ gap (k * 2 ^ 149) (s * 2 ^ q * d)
  than_other q s l h normal fits =
      let bits = sign_bit minus + (q * 8388608 + s) in
      let other : binary32_value bits ≡ Some (number minus (s * 2 ^ q)) = joined_value minus q s bits l h normal fits refl in
      let least : distance (signed_whole minus k) d v ≤ distance (signed_whole minus k) d (number minus (s * 2 ^ q)) =
      near bits (number minus (s * 2 ^ q)) other in
      rw (distance_is, distance_same minus k d (s * 2 ^ q) (2 ^ 149)) at least

  bit_positive : 0 < 2 ^ p * d
  bit_positive = product_positive (2 ^ p) d (pow_pos p) pos_d

  not_far_above : k * 2 ^ 149 ≤ m * 2 ^ p * d + 2 ^ p * d
  not_far_above =
      by_lt (p * 8388608 + (m + 1)) (255 * 8388608)
      (λ l.
      let next : (m + 1) * 2 ^ p * d ≡ m * 2 ^ p * d + 2 ^ p * d = omega arith in
      let nearer = than_other p (m + 1) at.place_most (omega (arith, at.short)) (λ h. omega (arith, at.normal h)) l in
      let most = above_next (k * 2 ^ 149) (m * 2 ^ p * d) ((m + 1) * 2 ^ p * d) (omega (arith, next, bit_positive)) nearer in
      omega (arith, most, next))
      (λ h.
      let last : p ≡ 253 = omega (arith, h, at.place_most, at.short) in
      let full : m + 1 ≡ 16777216 = omega (arith, h, at.place_most, at.short) in
      subst (λ (q : ℕ). k * 2 ^ 149 ≤ m * 2 ^ q * d + 2 ^ q * d) (sym last) (last_of_all k d m below full))

  -- the float below in size, at the same place
  same_place : 0 < m → (0 < p → 8388608 < m) → m * 2 ^ p * d ≤ k * 2 ^ 149 + 2 ^ p * d
  same_place some normal =
      let next = one_more (m - 1) m (2 ^ p) d (omega (arith, some)) in
      let nearer = than_other p (m - 1) at.place_most (omega (arith, at.short)) (λ h. omega (arith, normal h)) (omega (arith, at.short, at.place_most)) in
      let least = below_next (k * 2 ^ 149) (m * 2 ^ p * d) ((m - 1) * 2 ^ p * d) (omega (arith, next, bit_positive)) nearer in
      omega (arith, least, next)

  -- and at the place below
  place_below : (q : ℕ) → p ≡ q + 1 → m ≡ 8388608 → m * 2 ^ p * d ≤ k * 2 ^ 149 + 2 ^ p * d
  place_below q e s =
      let power : 2 ^ p ≡ 2 ^ q * 2 = ap (λ (i : ℕ). 2 ^ i) e ∙ next_power q in
      let half : 0 < 2 ^ q * d = product_positive (2 ^ q) d (pow_pos q) pos_d in
      let bit : 2 ^ p * d ≡ 2 * (2 ^ q * d) = rw power (omega arith) in
      let here : m * 2 ^ p * d ≡ 16777216 * (2 ^ q * d) = rw (s, power) (omega arith) in
      let there : 16777215 * 2 ^ q * d ≡ 16777215 * (2 ^ q * d) = omega arith in
      let nearer = than_other q 16777215 (omega (arith, e, at.place_most)) (omega arith) (λ h. omega arith) (omega (arith, e, at.place_most)) in
      let least = below_next (k * 2 ^ 149) (m * 2 ^ p * d) (16777215 * 2 ^ q * d) (omega (arith, here, there, half)) nearer in
      omega (arith, least, here, there, bit)

  not_far_below : m * 2 ^ p * d ≤ k * 2 ^ 149 + 2 ^ p * d
  not_far_below =
      by_lt 0 m
      (λ some.
      by_lt 0 p
      (λ l.
      by_lt 8388608 m
      (λ h. same_place some (λ i. h))
      (λ h. place_below (p - 1) (omega (arith, l)) (omega (arith, h, at.normal l))))
      (λ l. same_place some (λ i. absurd (omega (arith, i, l)))))
      (λ none.
      let z : m ≡ 0 = omega (arith, none) in
      let e : m * 2 ^ p * d ≡ 0 = rw z (omega arith) in
      omega (arith, e))

  pub same_sign_near : distance (signed_whole minus k) d v ≤ d * 2 ^ p
  same_sign_near =
      let near = within (k * 2 ^ 149) (m * 2 ^ p * d) (2 ^ p * d) not_far_above not_far_below in
      omega (arith, distance_is, near)

module _ (minus : Bool) (k d p m : ℕ) (v : Fraction) (pos_d : 0 < d) (at : IsFloatAt (not minus) m p v)
    (near : (other : ℕ) (w : Fraction) → binary32_value other ≡ Some w →
    distance (signed_whole minus k) d v ≤ distance (signed_whole minus k) d w) where
  far_distance : distance (signed_whole minus k) d v ≡ k * 2 ^ 149 + m * 2 ^ p * d
  far_distance = ap (λ (w : Fraction). distance (signed_whole minus k) d w) at.is ∙ distance_other minus k d (m * 2 ^ p) (2 ^ 149)

  than_least : k * 2 ^ 149 + m * 2 ^ p * d ≤ gap (k * 2 ^ 149) (1 * d)
  than_least =
      let bits = sign_bit minus + (0 * 8388608 + 1) in
      let other : binary32_value bits ≡ Some (number minus (1 * 2 ^ 0)) =
      joined_value minus 0 1 bits (omega arith) (omega arith) (λ h. absurd (omega (arith, h))) (omega arith) refl in
      let least : distance (signed_whole minus k) d v ≤ distance (signed_whole minus k) d (number minus (1 * 2 ^ 0)) =
      near bits (number minus (1 * 2 ^ 0)) other in
      rw (far_distance, distance_same minus k d (1 * 2 ^ 0) (2 ^ 149)) at least

  than_zero : k * 2 ^ 149 + m * 2 ^ p * d ≤ gap (k * 2 ^ 149) (0 * d)
  than_zero =
      let bits = sign_bit minus + (0 * 8388608 + 0) in
      let other : binary32_value bits ≡ Some (number minus (0 * 2 ^ 0)) =
      joined_value minus 0 0 bits (omega arith) (omega arith) (λ h. absurd (omega (arith, h))) (omega arith) refl in
      let least : distance (signed_whole minus k) d v ≤ distance (signed_whole minus k) d (number minus (0 * 2 ^ 0)) =
      near bits (number minus (0 * 2 ^ 0)) other in
      rw (far_distance, distance_same minus k d (0 * 2 ^ 0) (2 ^ 149)) at least

  gap_zero : gap (k * 2 ^ 149) (0 * d) ≡ k * 2 ^ 149
  unfolding gap
  gap_zero = omega arith

  pub other_sign_near : distance (signed_whole minus k) d v ≤ d * 2 ^ p
  other_sign_near =
      let none : m * 2 ^ p * d ≡ 0 = omega (arith, than_zero, gap_zero) in
      let most = near_zero (k * 2 ^ 149) (1 * d) (omega (arith, pos_d)) (omega (arith, than_least)) in
      let power : d * 1 ≤ d * 2 ^ p = mul-le-mul (omega arith) (omega (arith, pow_pos p)) in
      omega (arith, far_distance, none, most, power)

-- ---- whatever their signs
signs : (n : ℤ) → (minus : Bool) × (n ≡ signed_whole minus (unsigned_abs n))
signs (pos k) = (false, refl)
signs (negsuc k) = (true, refl)

by_signs : (t minus : Bool) (k d p m : ℕ) (v : Fraction) → 0 < d → k < (2 ^ 128 - 2 ^ 103) * d → IsFloatAt t m p v →
    ((other : ℕ) (w : Fraction) → binary32_value other ≡ Some w →
    distance (signed_whole minus k) d v ≤ distance (signed_whole minus k) d w) →
    distance (signed_whole minus k) d v ≤ d * 2 ^ p
by_signs true true k d p m v l h at near = same_sign_near true k d p m v l h at near
by_signs false false k d p m v l h at near = same_sign_near false k d p m v l h at near
by_signs true false k d p m v l h at near = other_sign_near false k d p m v l at near
by_signs false true k d p m v l h at near = other_sign_near true k d p m v l at near

pub error_is_small : (n : ℤ) (d bits : ℕ) → 0 < d → unsigned_abs n < (2 ^ 128 - 2 ^ 103) * d →
    (near : IsNearestBinary32 n d bits) → distance n d near.value ≤ d * 2 ^ last_place bits
error_is_small n d bits l h near =
    let sign = signs n in
    let least = subst (λ (z : ℤ). (other : ℕ) (w : Fraction) → binary32_value other ≡ Some w → distance z d near.value ≤ distance z d w) sign.1 near.near in
    subst (λ (z : ℤ). distance z d near.value ≤ d * 2 ^ last_place bits) (sym sign.1)
    (by_signs (is_below_zero bits) sign.0 (unsigned_abs n) d (last_place bits) (significand_of bits) near.value l h
    (float_at bits near.value near.finite) least)
