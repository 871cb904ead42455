-- The nearest binary32, from the significand at its place.
use Rattle.std.proofs.Common.{◌≡◌, ℕ, ◌+◌, ◌-◌, ◌*◌, ◌^◌, ◌%◌, ◌<◌, ◌≤◌, Bool, true, false, pos, neg_ℤ, Some, subst, mul-le-mul, refl, sym, ap, ◌∙◌, arith}
use Rattle.std.specs.Prelude.{not}
use Rattle.std.proofs.lemmas.Nat.{pow_pos}
use Rattle.mesh_number.specs.Number.Fractions.{Fraction, signed_whole}
use Rattle.mesh_number.proofs.Rounding.{by_lt}
use Rattle.mesh_number.specs.Round.Nearest.{IsNearest}
use Rattle.mesh_number.specs.Float.Scaling.{IsScaled}
use Rattle.mesh_number.specs.Float.Binary32.{IsNearestBinary32, distance}
use Rattle.mesh_number.proofs.Distances.{gap, multiple_above, nearest_multiple, nearest_of_two}
use Rattle.mesh_number.proofs.Powers.{higher_place, lower_place, product_positive, same_factor}
use Rattle.mesh_number.proofs.Signs.{distance_same, distance_other}
use Rattle.mesh_number.proofs.Bits.{Float, float_parts, joined_value, sign_bit}

-- ---- sizes of significands
-- a size below 2^24 is rounded to 2^24 at most
pub significand_most : (x d m : ℕ) → 0 < d → IsNearest x d m → x < 16777216 * d → m ≤ 16777216
significand_most x d m p near short =
    by_lt 16777216 m (λ l. absurd (omega (arith, p, near.from, short, multiple_above 16777216 m d l))) (λ l. l)

-- and one of 2^23 or more to 2^23 at least
significand_least : (x d m : ℕ) → 0 < d → IsNearest x d m → 8388608 * d ≤ x → 8388608 ≤ m
significand_least x d m p near normal =
    by_lt m 8388608 (λ l. absurd (omega (arith, p, near.to, normal, multiple_above m 8388608 d l))) (λ l. l)

farther_below : (x a b c : ℕ) → gap x a ≤ gap x b → c ≤ b → b ≤ x → gap x a ≤ gap x c
unfolding gap
farther_below x a b c near l h = omega (arith, near, l, h)

nearer_within : (x a b c : ℕ) → gap x c ≤ gap x a → c ≤ b → b ≤ x → gap x b ≤ gap x a
unfolding gap
nearer_within x a b c near l h = omega (arith, near, l, h)

equal_within : (x a c : ℕ) → gap x c ≤ gap x a → c ≤ a → a ≤ x → c ≡ a
unfolding gap
equal_within x a c near l h = omega (arith, near, l, h)

from_zero : (x d : ℕ) → gap x (0 * d) ≡ x
unfolding gap
from_zero x d = omega arith

-- a float as a fraction
abbrev pub number : Bool → ℕ → Fraction
number minus n = record { numerator = signed_whole minus n; denominator = 2 ^ 149 }

no_sign : (minus : Bool) → number (not minus) 0 ≡ number minus 0
no_sign false = refl
no_sign true = refl

module _ (n d place m : ℕ) (p : 0 < d) (scaled : IsScaled n d place m) where
  unit_positive : 0 < d * 2 ^ place
  unit_positive = product_positive d (2 ^ place) p (pow_pos place)

  regrouped : m * 2 ^ place * d ≡ m * (d * 2 ^ place)
  regrouped = omega arith

  -- ---- sizes, in units of 2^-149 / d
  near_size : (s q : ℕ) → s < 2 ^ 24 → gap (n * 2 ^ 149) (m * (d * 2 ^ place)) ≤ gap (n * 2 ^ 149) (s * 2 ^ q * d)
  near_size s q l =
      by_lt q place
      (λ h. farther_below _ _ _ _ (nearest_multiple (n * 2 ^ 149) (d * 2 ^ place) m scaled.nearest (2 ^ 23))
      (lower_place s place q d l h) (scaled.normal (omega (arith, h))))
      (λ h. rw (higher_place s place q d h) (nearest_multiple (n * 2 ^ 149) (d * 2 ^ place) m scaled.nearest (s * 2 ^ (q - place))))

  even_higher : (s q : ℕ) → place ≤ q → (s * 2 ^ q ≡ m * 2 ^ place → ⊥) →
      gap (n * 2 ^ 149) (s * 2 ^ q * d) ≤ gap (n * 2 ^ 149) (m * (d * 2 ^ place)) → m % 2 ≡ 0
  even_higher s q h other as_near =
      nearest_of_two (n * 2 ^ 149) (d * 2 ^ place) m scaled.nearest (s * 2 ^ (q - place)) unit_positive
      (λ e. other (same_factor (s * 2 ^ q) (m * 2 ^ place) d p (higher_place s place q d h ∙ ap (λ (k : ℕ). k * (d * 2 ^ place)) e ∙ sym regrouped)))
      (rw (sym (higher_place s place q d h)) as_near)

  even_lower : (s q : ℕ) → s < 2 ^ 24 → q < place → (s * 2 ^ q ≡ m * 2 ^ place → ⊥) →
      gap (n * 2 ^ 149) (s * 2 ^ q * d) ≤ gap (n * 2 ^ 149) (m * (d * 2 ^ place)) → m % 2 ≡ 0
  even_lower s q l h other as_near =
      let low : s * 2 ^ q * d ≤ 2 ^ 23 * (d * 2 ^ place) = lower_place s place q d l h in
      let high : 2 ^ 23 * (d * 2 ^ place) ≤ n * 2 ^ 149 = scaled.normal (omega (arith, h)) in
      nearest_of_two (n * 2 ^ 149) (d * 2 ^ place) m scaled.nearest (2 ^ 23) unit_positive
      (λ e.
      let same : 2 ^ 23 * (d * 2 ^ place) ≡ m * (d * 2 ^ place) = ap (λ (k : ℕ). k * (d * 2 ^ place)) e in
      other (same_factor (s * 2 ^ q) (m * 2 ^ place) d p
      (equal_within (n * 2 ^ 149) (m * (d * 2 ^ place)) (s * 2 ^ q * d) as_near (omega (arith, low, same))
      (omega (arith, high, same)) ∙ sym regrouped)))
      (nearer_within _ _ _ _ as_near low high)

  even_size : (s q : ℕ) → s < 2 ^ 24 → (s * 2 ^ q ≡ m * 2 ^ place → ⊥) → gap (n * 2 ^ 149) (s * 2 ^ q * d) ≤ gap (n * 2 ^ 149) (m * (d * 2 ^ place)) → m % 2 ≡ 0
  even_size s q l other as_near =
      by_lt q place (λ h. even_lower s q l h other as_near) (λ h. even_higher s q h other as_near)

  near_zero : gap (n * 2 ^ 149) (m * (d * 2 ^ place)) ≤ n * 2 ^ 149
  near_zero =
      let k : gap (n * 2 ^ 149) (m * (d * 2 ^ place)) ≤ gap (n * 2 ^ 149) (0 * (d * 2 ^ place)) =
      nearest_multiple (n * 2 ^ 149) (d * 2 ^ place) m scaled.nearest 0 in
      omega (arith, k, from_zero (n * 2 ^ 149) (d * 2 ^ place))

  even_zero : (m ≡ 0 → ⊥) → n * 2 ^ 149 ≤ gap (n * 2 ^ 149) (m * (d * 2 ^ place)) → m % 2 ≡ 0
  even_zero other as_near =
      nearest_of_two (n * 2 ^ 149) (d * 2 ^ place) m scaled.nearest 0 unit_positive (λ e. other (sym e)) (rw (from_zero (n * 2 ^ 149) (d * 2 ^ place)) as_near)

  -- ---- with signs
  module _ (minus : Bool) where
    distance_here : distance (signed_whole minus n) d (number minus (m * 2 ^ place)) ≡ gap (n * 2 ^ 149) (m * (d * 2 ^ place))
    distance_here = distance_same minus n d (m * 2 ^ place) (2 ^ 149) ∙ ap (λ (k : ℕ). gap (n * 2 ^ 149) k) regrouped

    near_same : (s q : ℕ) → s < 2 ^ 24 → distance (signed_whole minus n) d (number minus (m * 2 ^ place)) ≤ distance
        (signed_whole minus n) d (number minus (s * 2 ^ q))
    near_same s q l = rw (distance_here, distance_same minus n d (s * 2 ^ q) (2 ^ 149)) (near_size s q l)

    near_other : (v : ℕ) → distance (signed_whole minus n) d (number minus (m * 2 ^ place)) ≤ distance (signed_whole minus n) d (number (not minus) v)
    near_other v = rw (distance_here, distance_other minus n d v (2 ^ 149)) (omega (arith, near_zero))

    even_same : (s q : ℕ) → s < 2 ^ 24 → (number minus (s * 2 ^ q) ≡ number minus (m * 2 ^ place) → ⊥) →
        distance (signed_whole minus n) d (number minus (s * 2 ^ q)) ≤ distance (signed_whole minus n) d
        (number minus (m * 2 ^ place)) → m % 2 ≡ 0
    even_same s q l other as_near =
        even_size s q l (λ e. other (ap (λ (k : ℕ). number minus k) e)) (rw (distance_here, distance_same minus n d (s * 2 ^ q) (2 ^ 149)) at as_near)

    even_other : (v : ℕ) → (number (not minus) v ≡ number minus (m * 2 ^ place) → ⊥) →
        distance (signed_whole minus n) d (number (not minus) v) ≤ distance (signed_whole minus n) d
        (number minus (m * 2 ^ place)) → m % 2 ≡ 0
    even_other v other as_near =
        let sum : n * 2 ^ 149 + v * d ≤ gap (n * 2 ^ 149) (m * (d * 2 ^ place)) = rw (distance_here, distance_other minus n d v (2 ^ 149)) at as_near in
        let none : v * d ≡ 0 * d = omega (arith, sum, near_zero) in
        let v_zero : v ≡ 0 = same_factor v 0 d p none in
        even_zero
        (λ z. let m_zero : m * 2 ^ place ≡ 0 = ap (λ (k : ℕ). k * 2 ^ place) z ∙ (omega arith) in other (rw (v_zero, m_zero) (no_sign minus)))
        (omega (arith, sum))

either_sign : (P : Bool → Type 0) (minus other : Bool) → P minus → P (not minus) → P other
either_sign P false false a b = a
either_sign P false true a b = b
either_sign P true false a b = b
either_sign P true true a b = a

-- ---- the greatest float
least_infinite : (n d m : ℕ) → 0 < d → IsNearest (n * 2 ^ 149) (d * 2 ^ 253) m → n < (2 ^ 128 - 2 ^ 103) * d → m < 16777216
least_infinite n d m p near below =
    by_lt m 16777216 (λ l. l) (λ h. absurd (let k : 16777216 * (d * 2 ^ 253) ≤ m * (d * 2 ^ 253) =
    mul-le-mul h (omega arith) in omega (arith, p, near.from, below, k)))

module _ (n d place m : ℕ) (p : 0 < d) (scaled : IsScaled n d place m) (below : n < (2 ^ 128 - 2 ^ 103) * d) (top : place ≤ 253) where
  most : m ≤ 16777216
  most = significand_most (n * 2 ^ 149) (d * 2 ^ place) m (unit_positive n d place m p scaled) scaled.nearest scaled.short

  least : 0 < place → 8388608 ≤ m
  least l = significand_least (n * 2 ^ 149) (d * 2 ^ place) m (unit_positive n d place m p scaled) scaled.nearest (scaled.normal l)

  at_top : place ≡ 253 → m < 16777216
  at_top e = least_infinite n d m p (subst (λ (k : ℕ). IsNearest (n * 2 ^ 149) (d * 2 ^ k) m) e scaled.nearest) below

  pub is_finite : place * 8388608 + m < 255 * 8388608
  is_finite = by_lt place 253 (λ l. omega (arith, most, l)) (λ h. let k : m < 16777216 = at_top (omega arith) in omega (arith, k, top))

  -- a float of this sign, or of the other if it is 0
  module _ (minus sign : Bool) (bits : ℕ) (same : number sign (m * 2 ^ place) ≡ number minus (m * 2 ^ place))
      (is : bits ≡ sign_bit sign + (place * 8388608 + m)) where
    near_any : (w : Fraction) → Float w → distance (signed_whole minus n) d (number minus (m * 2 ^ place)) ≤ distance (signed_whole minus n) d w
    near_any w f = rw f.3.is (either_sign (λ (b : Bool). distance (signed_whole minus n) d
        (number minus (m * 2 ^ place)) ≤ distance (signed_whole minus n) d (number b (f.1 * 2 ^ f.2))) minus f.0
        (near_same n d place m p scaled minus f.1 f.2 f.3.short) (near_other n d place m p scaled minus (f.1 * 2 ^ f.2)))

    even_any : (w : Fraction) → Float w → (w ≡ number minus (m * 2 ^ place) → ⊥) →
        distance (signed_whole minus n) d w ≤ distance (signed_whole minus n) d (number minus (m * 2 ^ place)) → m % 2 ≡ 0
    even_any w f other as_near =
        either_sign (λ (b : Bool). (number b (f.1 * 2 ^ f.2) ≡ number minus (m * 2 ^ place) → ⊥) →
        distance (signed_whole minus n) d (number b (f.1 * 2 ^ f.2)) ≤ distance (signed_whole minus n) d
        (number minus (m * 2 ^ place)) → m % 2 ≡ 0)
        minus f.0 (even_same n d place m p scaled minus f.1 f.2 f.3.short) (even_other n d place m p scaled minus (f.1 * 2 ^ f.2))
        (λ e. other (f.3.is ∙ e)) (rw f.3.is at as_near)

    even_bits : (b : Bool) → bits ≡ sign_bit b + (place * 8388608 + m) → m % 2 ≡ 0 → bits % 2 ≡ 0
    even_bits false e h = omega arith
    even_bits true e h = omega arith

    nearest_float : (bits ≡ 2 ^ 31 → ⊥) → IsNearestBinary32 (signed_whole minus n) d bits
    nearest_float nonzero = record {
      value = number minus (m * 2 ^ place);
      finite = joined_value sign place m bits top most least is_finite is ∙ ap (λ (v : Fraction). Some v) same;
      near = λ other w e. near_any w (float_parts other w e);
      even = λ other w e apart as_near. even_bits sign is (even_any w (float_parts other w e) apart as_near);
      no_negative_zero = nonzero;
    }

  -- ---- the two ways to join
  pub without_sign : (bits : ℕ) → bits ≡ place * 8388608 + m → IsNearestBinary32 (pos n) d bits
  without_sign bits e = nearest_float false false bits refl (omega (arith, e)) (λ z. omega (arith, z, e, is_finite))

  pub with_sign : (bits : ℕ) → bits ≡ 2147483648 + (place * 8388608 + m) → (place * 8388608 + m ≡ 0 → ⊥) → IsNearestBinary32 (neg_ℤ (pos n)) d bits
  with_sign bits e nonzero = nearest_float true true bits refl e (λ z. nonzero (omega (arith, z, e)))

  pub zero_loses_sign : (bits : ℕ) → bits ≡ place * 8388608 + m → bits ≡ 0 → IsNearestBinary32 (neg_ℤ (pos n)) d bits
  zero_loses_sign bits e z =
      let none : m * 2 ^ place ≡ 0 = ap (λ (k : ℕ). k * 2 ^ place) (let k : m ≡ 0 = omega (arith, e, z) in k) ∙ (omega arith) in
      nearest_float true false bits (rw none refl) (omega (arith, e)) (λ t. omega (arith, t, z))
