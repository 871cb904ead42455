-- Taylor's polynomials and the decimals nearest to them
use Rattle.std.proofs.Common.{◌≡◌, ◌≤◌, ◌<◌, ℕ, zero, suc, ◌+◌, ◌-◌, ◌*◌, ◌^◌, Bool, true, false, refl, sym, ap, ◌∙◌, arith}
use Rattle.std.proofs.Common.{ℤ, pos, neg_ℤ, ◌+ℤ◌, ◌-ℤ◌, ◌*ℤ◌, unsigned_abs}
use Rattle.mesh_number.specs.Number.Fractions.{Fraction, signed_whole}
use Rattle.mesh_place.specs.Directions.{series, cosine_of, sine_of, IsNearestUnits}
use Rattle.mesh_place.specs.declared.maps.series.Ratio.{Ratio}
use Rattle.mesh_place.specs.Naturals.{natural_of}
use Rattle.mesh_place.specs.Integers.{integer_of}
use Rattle.mesh_place.specs.Ratios.{IsRatio, IsNearestQuotient}
use Rattle.ember_algebra.proofs.Ring.{◌⊕◌, ◌⊖◌, ◌⊗◌, num, ◌≈◌, solve, cancels}
use Rattle.mesh_place.proofs.Sums.{product_of_naturals}

-- ---- denominators
product_positive : (a b : ℕ) → 0 < a → 0 < b → 0 < a * b
product_positive (suc a) (suc b) h k = omega arith
product_positive zero b h k = absurd (omega arith)
product_positive (suc a) zero h k = absurd (omega arith)

pub series_positive : (brackets k over under : ℕ) → 0 < k → 0 < under → 0 < (series brackets k over under).denominator
series_positive zero k over under hk hu = omega arith
series_positive (suc brackets) k over under hk hu =
    product_positive (k * (k + 1) * under) ((series brackets (k + 2) over under).denominator)
    (product_positive (k * (k + 1)) under (product_positive k (k + 1) hk (omega arith)) hu)
    (series_positive brackets (k + 2) over under (omega arith) hu)

pub cosine_positive : (over under : ℕ) → 0 < under → 0 < (cosine_of over under).denominator
unfolding cosine_of
cosine_positive over under h = series_positive 13 1 (over * over) (under * under) (omega arith) (product_positive under under h h)

pub sine_positive : (over under : ℕ) → 0 < under → 0 < (sine_of over under).denominator
unfolding sine_of
sine_positive over under h =
    product_positive under ((series 13 2 (over * over) (under * under)).denominator) h
    (series_positive 13 2 (over * over) (under * under) (omega arith) (product_positive under under h h))

-- ---- the nearest whole number of a fraction with a sign
pub size_of_signed : (minus : Bool) (n d : ℕ) → signed_whole minus n ≡ pos d → n ≡ d
size_of_signed false n d e = omega (arith, ap unsigned_abs e)
size_of_signed true zero d e = omega (arith, ap unsigned_abs e)
size_of_signed true (suc n) d e = cc

-- a rest that is doubled and compared rounds to the nearest
pub rounded_down : (n d q r : ℕ) → q * d + r ≡ n → r * 2 + 0 < d → IsNearestQuotient n d q
rounded_down n d q r e h = record { from = omega arith; to = omega arith }

pub rounded_up : (n d q r s : ℕ) → q * d + r ≡ n → d ≤ r * 2 + 0 → r < d → s ≡ q * 1 + 1 → IsNearestQuotient n d s
rounded_up n d q r s e h less next = rw next (record { from = omega arith; to = omega arith })

-- ---- as code computes them
-- the product of two natural numbers that are given as integers
pub natural_product : (x y n : ℤ) (a b : ℕ) → n ≡ x *ℤ y → x ≡ pos a → y ≡ pos b → n ≡ pos (a * b)
natural_product x y n a b e f g = e ∙ rw (f, g) (product_of_naturals a b)

-- a bracket more
pub series_more : (brackets b k o u : ℕ) (r inner : Ratio) (over under divisor factor one s0 s1 s2 : ℤ) → brackets ≡ suc b →
    IsRatio inner (series b (k + 2) o u) → over ≡ pos o → under ≡ pos u → divisor ≡ pos (k * (k + 1)) → factor ≡ divisor *ℤ under →
    integer_of r.denominator ≡ factor *ℤ integer_of inner.denominator → one ≡ pos 1 → s0 ≡ pos 0 →
    s1 ≡ s0 +ℤ integer_of r.denominator *ℤ one → s2 ≡ s1 -ℤ over *ℤ integer_of inner.numerator → integer_of r.numerator ≡ s2 →
    IsRatio r (series brackets k o u)
series_more brackets b k o u r inner over under divisor factor one s0 s1 s2 count is eo eu ed ef ew e1 e0 f1 f2 en =
    let whole : integer_of r.denominator ≡ pos (k * (k + 1) * u * (series b (k + 2) o u).denominator) =
    natural_product factor (integer_of inner.denominator) (integer_of r.denominator) (k * (k + 1) * u) _ ew
    (natural_product divisor under factor (k * (k + 1)) u ef ed eu) is.denominator in
    let top : integer_of r.numerator ≡ pos (k * (k + 1) * u * (series b (k + 2) o u).denominator) -ℤ pos o *ℤ (series b (k + 2) o u).numerator =
    en ∙ f2 ∙ rw (f1, e0, e1, eo, is.numerator, whole)
    (solve 2 (λ w p. num (pos 0) ⊕ w ⊗ num (pos 1) ⊖ p ≈ w ⊖ p) cancels (pos (k * (k + 1) * u * (series b (k + 2) o u).denominator))
    (pos o *ℤ (series b (k + 2) o u).numerator)) in
    rw count (record { numerator = top; denominator = whole })

pub cosine_by_series : (o u : ℕ) (r : Ratio) → IsRatio r (series 13 1 (o * o) (u * u)) → IsRatio r (cosine_of o u)
unfolding cosine_of
cosine_by_series o u r is = is

pub sine_by_series : (o u : ℕ) (r inner : Ratio) (over under : ℤ) → IsRatio inner (series 13 2 (o * o) (u * u)) → over ≡ pos o → under ≡ pos u →
    integer_of r.numerator ≡ over *ℤ integer_of inner.numerator → integer_of r.denominator ≡ under *ℤ integer_of inner.denominator →
    IsRatio r (sine_of o u)
unfolding sine_of
sine_by_series o u r inner over under is eo eu en ed =
    record {
      numerator = en ∙ rw (eo, is.numerator) refl;
      denominator = natural_product under (integer_of inner.denominator) (integer_of r.denominator) u _ ed eu is.denominator;
    }

-- the digits of a denominator above 0 aren't those of 0
pub positive_digits : (r : Ratio) (v : Fraction) → IsRatio r v → 0 < v.denominator → 0 < natural_of r.denominator.digits.items
positive_digits r v is h =
    let size : natural_of r.denominator.digits.items ≡ v.denominator = size_of_signed r.denominator.minus _ _ is.denominator in
    rw size h
