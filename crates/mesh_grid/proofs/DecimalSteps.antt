-- Steps as decimals: trillionths, and fractions without zeros at their end.
use Rattle.std.proofs.Common.{◌≡◌, ◌≤◌, ◌<◌, ◌⊎◌, ⊎_elim, inl, inr, ℕ, zero, suc, Bool, true, false, cond, nat_lt}
use Rattle.std.proofs.Common.{Some, None, ◌-◌, ◌*◌, ◌/◌, ◌%◌, ◌^◌, refl, subst, ◌∙◌, sym, ap, arith, ℤ}
use Rattle.std.proofs.Common.{pos, negsuc, neg_ℤ, ◌*ℤ◌, ◌<ℤ◌, ◌≤ℤ◌, mul-pos}
use borrow.Author.Differences.{ints}
use Rattle.std.specs.Int.{int_div_euclid}
use Rattle.std.specs.Int.RustNames.{unsigned_abs}
use Rattle.std.proofs.lemmas.Bool.{cases_lt}
use Rattle.std.proofs.lemmas.Bool.Decides.{nat_tests}
use Rattle.std.proofs.lemmas.Nat.{pow-add}
use Rattle.std.proofs.Math.Nat.{pow-suc, sub-add_cancel, mul-mod_left, mul-le-mul_right, le-mul_of_pos_right}
use Rattle.std.proofs.Math.Nat.{pow-le-pow_right, eq_of_mul-eq-mul_left, eq_of_mul-eq-mul_right}
use Rattle.ember_algebra.proofs.Laws.{linear, *ℤ-neg, neg-*ℤ}
use lib.IntN.{*ℤ_comm}
use Rattle.std.proofs.Math.IntN.{neg_ℤ-neg_ℤ}
use Rattle.ember_algebra.proofs.Booleans.{same_some}
use Rattle.mesh_number.specs.Number.Fractions.{Fraction, is_below_limit, floor_times, floor_of_multiple}
use Rattle.mesh_number.proofs.DigitNumbers.{pow_ten_pos}
use Rattle.mesh_grid.specs.declared.snap.steps.GridStep.{GridStep}
use Rattle.mesh_grid.specs.Snap.Steps.{IsStep}
use Rattle.mesh_grid.specs.Snap.Decimals.{IsReduced, IsDecimalStep, IsStepOfTrillionths}
use Rattle.mesh_grid.proofs.Floors.{floor_low, floor_is}

-- ---- powers of ten
pow_split : (i j : ℕ) → i ≤ j → 10 ^ j ≡ 10 ^ (j - i) * 10 ^ i
pow_split i j h = ap (λ (n : ℕ). 10 ^ n) (sym (sub-add_cancel h)) ∙ pow-add 10 (j - i) i

pow_next : (i : ℕ) → 0 < i → 10 ^ i ≡ 10 ^ (i - 1) * 10
pow_next i p = pow_split 1 i (omega arith)

-- what is left of a number without the zero at its end isn't 0
pub place_left : (m : ℕ) → 0 < m → m % 10 ≡ 0 → 0 < m / 10
place_left m p z = omega arith

-- a zero at the end of a number is one place less
pub place_dropped : (m p t : ℕ) → 0 < p → p ≤ 12 → m % 10 ≡ 0 → m * 10 ^ (12 - p) ≡ t → m / 10 * 10 ^ (12 - (p - 1)) ≡ t
place_dropped m p t q h z e =
    let more : 12 - (p - 1) ≡ suc (12 - p) = omega arith in
    let power : 10 ^ suc (12 - p) ≡ 10 ^ (12 - p) * 10 = pow-suc 10 (12 - p) in
    let tens : m ≡ m / 10 * 10 = omega arith in
    let both : m * 10 ^ (12 - p) ≡ m / 10 * 10 * 10 ^ (12 - p) = ap (λ (n : ℕ). n * 10 ^ (12 - p)) tens in
    rw (more, power) (omega (arith, both, e))

-- ---- in lowest terms
shorter : (m n p k : ℕ) → n * 10 ^ p ≡ m * 10 ^ k → p ≤ k → m ≤ n
shorter m n p k e h =
    let split = pow_split p k h in
    let product : m * 10 ^ k ≡ m * 10 ^ (k - p) * 10 ^ p = ap (λ (x : ℕ). m * x) split ∙ (omega arith) in
    let same : n ≡ m * 10 ^ (k - p) = eq_of_mul-eq-mul_right (10 ^ p) (pow_ten_pos p) n (m * 10 ^ (k - p)) (e ∙ product) in
    rw same (le-mul_of_pos_right m (pow_ten_pos (k - p)))

longer : (m n p k : ℕ) → n * 10 ^ p ≡ m * 10 ^ k → k < p → m % 10 ≡ 0
longer m n p k e h =
    let split = pow_split k p (omega arith) in
    let last = pow_next (p - k) (omega arith) in
    let tens : n * 10 ^ p ≡ n * 10 ^ (p - k - 1) * 10 * 10 ^ k =
    ap (λ (x : ℕ). n * x) (split ∙ ap (λ (x : ℕ). x * 10 ^ k) last) ∙ (omega arith) in
    let same : m ≡ n * 10 ^ (p - k - 1) * 10 = eq_of_mul-eq-mul_right (10 ^ k) (pow_ten_pos k) m (n * 10 ^ (p - k - 1) * 10) (sym e ∙ tens) in
    rw same (mul-mod_left (n * 10 ^ (p - k - 1)) 10)

reduced_least_of : (m n p k : ℕ) → IsReduced m p → n * 10 ^ p ≡ m * 10 ^ k → m ≤ n
reduced_least_of m n p k r e = by (cases_lt k p)
  where
    by : (k < p) ⊎ (p ≤ k) → m ≤ n
    by (inl h) = ⊎_elim (λ z. absurd (omega (arith, z, h))) (λ z. absurd (z (longer m n p k e h))) r
    by (inr h) = shorter m n p k e h

same_over_powers : (m n t p k : ℕ) → p ≤ 12 → m * 10 ^ (12 - p) ≡ t → n * 10 ^ 12 ≡ t * 10 ^ k → n * 10 ^ p ≡ m * 10 ^ k
same_over_powers m n t p k h a e =
    let left : 10 ^ (12 - p) * (n * 10 ^ p) ≡ n * 10 ^ 12 = (omega arith) ∙ sym (ap (λ (x : ℕ). n * x) (pow_split p 12 h)) in
    let right : t * 10 ^ k ≡ 10 ^ (12 - p) * (m * 10 ^ k) = ap (λ (x : ℕ). x * 10 ^ k) (sym a) ∙ (omega arith) in
    eq_of_mul-eq-mul_left (10 ^ (12 - p)) (pow_ten_pos (12 - p)) (n * 10 ^ p) (m * 10 ^ k) (left ∙ e ∙ right)

-- no other step has a smaller numerator than the number without zeros at its end
pub reduced_least : (m t p : ℕ) (other : GridStep) → p ≤ 12 → m * 10 ^ (12 - p) ≡ t → IsReduced m p → IsStepOfTrillionths t other → m ≤ other.numerator
reduced_least m t p other h a r o =
    let e : other.numerator * 10 ^ 12 ≡ t * 10 ^ o.step.places = o.same ∙ ap (λ (x : ℕ). t * x) o.step.denominator in
    reduced_least_of m other.numerator p o.step.places r (same_over_powers m other.numerator t p o.step.places h a e)

-- and it is a step if it isn't too large
pub reduced_is_step : (m t p : ℕ) → 0 < t → p ≤ 12 → m * 10 ^ (12 - p) ≡ t → m < 2 ^ 40 → IsStepOfTrillionths t (record { numerator = m; denominator = 10 ^ p })
reduced_is_step m t p q h a small =
    let under : 10 ^ p ≤ 10 ^ 12 = pow-le-pow_right {n = 10} (omega arith) {i = p} {j = 12} h in
    let positive : 0 < m = by m a in
    let same : m * 10 ^ 12 ≡ t * 10 ^ p = ap (λ (x : ℕ). m * x) (pow_split p 12 h) ∙ (omega arith) ∙ ap (λ (x : ℕ). x * 10 ^ p) a in
    record {
      step = record {
        step = record {
          numerator_positive = positive;
          denominator_positive =
              pow_ten_pos p;
          numerator_small = small;
          denominator_small = omega (arith, under);
        };
        places = p;
        few =
            h;
        denominator = refl;
      };
      same = same;
    }
  where
    by : (m : ℕ) → m * 10 ^ (12 - p) ≡ t → 0 < m
    by zero a = absurd (omega (arith, a, q))
    by (suc m) a = omega arith

-- ---- whole numbers of trillionths
-- a number that is as many steps as another is that many trillionths
pub trillionths_of_step : (n : ℤ) (f d t over under : ℕ) → 0 < f → 0 < d → (pos f *ℤ n) ≡ (pos t *ℤ pos d) →
    (n *ℤ pos under) ≡ pos (over * d) → over * f ≡ t * under
trillionths_of_step (pos a) f d t over under p q e h =
    let first : f * a ≡ t * d = omega (arith, ints, e) in
    let second : a * under ≡ over * d = omega (arith, ints, h) in
    let left : over * f * d ≡ f * (a * under) = (omega arith) ∙ ap (λ (x : ℕ). f * x) (sym second) in
    let right : f * (a * under) ≡ t * under * d = (omega arith) ∙ ap (λ (x : ℕ). x * under) first ∙ (omega arith) in
    eq_of_mul-eq-mul_right d q (over * f) (t * under) (left ∙ right)
trillionths_of_step (negsuc a) f d t over under p q e h = absurd (omega (arith, ints, e, p))

-- and the other way round
pub step_from_trillionths : (n : ℤ) (f d t over under : ℕ) → 0 < f → (pos f *ℤ n) ≡ (pos t *ℤ pos d) → over * f ≡ t * under → (n *ℤ pos under) ≡ pos (over * d)
step_from_trillionths (pos a) f d t over under p e h =
    let first : f * a ≡ t * d = omega (arith, ints, e) in
    let left : f * (a * under) ≡ t * under * d = (omega arith) ∙ ap (λ (x : ℕ). x * under) first ∙ (omega arith) in
    let right : t * under * d ≡ f * (over * d) = ap (λ (x : ℕ). x * d) (sym h) ∙ (omega arith) in
    let same : a * under ≡ over * d = eq_of_mul-eq-mul_left f p (a * under) (over * d) (left ∙ right) in
    omega (arith, ints, same)
step_from_trillionths (negsuc a) f d t over under p e h = absurd (omega (arith, ints, e, p))

-- a decimal step is a whole number of trillionths
pub step_has_trillionths : (n : ℤ) (d : ℕ) (s : GridStep) → (r : IsDecimalStep s) →
    (n *ℤ pos s.denominator) ≡ pos (s.numerator * d) →
    (pos (10 ^ 12) *ℤ n) ≡ (pos (s.numerator * 10 ^ (12 - r.places)) *ℤ pos d)
step_has_trillionths (pos a) d s r h =
    let second : a * s.denominator ≡ s.numerator * d = omega (arith, ints, h) in
    let split : 10 ^ 12 ≡ 10 ^ (12 - r.places) * s.denominator = pow_split r.places 12 r.few ∙ ap (λ (x : ℕ). 10 ^ (12 - r.places) * x) (sym r.denominator) in
    let left : 10 ^ 12 * a ≡ 10 ^ (12 - r.places) * (a * s.denominator) = ap (λ (x : ℕ). x * a) split ∙ (omega arith) in
    let right : 10 ^ (12 - r.places) * (a * s.denominator) ≡ s.numerator * 10 ^ (12 - r.places) * d =
    ap (λ (x : ℕ). 10 ^ (12 - r.places) * x) second ∙ (omega arith) in
    let same : 10 ^ 12 * a ≡ s.numerator * 10 ^ (12 - r.places) * d = left ∙ right in
    omega (arith, ints, same)
step_has_trillionths (negsuc a) d s r h = absurd (omega (arith, ints, h, r.step.denominator_positive))

-- a step's value is below the limit
pub step_below_limit : (v : Fraction) (s : GridStep) → IsStep s → 0 < v.denominator →
    (v.numerator *ℤ pos s.denominator) ≡ pos (s.numerator * v.denominator) → is_below_limit v ≡ true
step_below_limit v s r p h = by v.numerator h
  where
    by : (n : ℤ) → (n *ℤ pos s.denominator) ≡ pos (s.numerator * v.denominator) → nat_lt (unsigned_abs n) (10 ^ 15 * v.denominator) ≡ true
    by (pos a) h =
        let second : a * s.denominator ≡ s.numerator * v.denominator = omega (arith, ints, h) in
        let more : a ≤ a * s.denominator = le-mul_of_pos_right a r.denominator_positive in
        let less : s.numerator * v.denominator ≤ 2 ^ 40 * v.denominator = mul-le-mul_right v.denominator (omega (arith, r.numerator_small)) in
        let below : a < 10 ^ 15 * v.denominator = omega (arith, second, more, less, p) in
        grind (arith, nat_tests, below)
    by (negsuc a) h = absurd (omega (arith, ints, h, r.denominator_positive))

-- a step's number of trillionths is above 0
pub step_positive : (n z : ℤ) (f d over under : ℕ) → 0 < f → 0 < d → 0 < over → (pos f *ℤ n) ≡ (z *ℤ pos d) → (n *ℤ pos under) ≡ pos (over * d) → pos 0 <ℤ z
step_positive (pos a) (pos (suc t)) f d over under p q o e h = omega (arith, ints)
step_positive (pos zero) (pos zero) f d over under p q o e h =
    let product = mul-pos o q in absurd (omega (arith, ints, h, product))
step_positive (pos (suc a)) (pos zero) f d over under p q o e h =
    let product : 0 < f * suc a = mul-pos p (omega arith) in absurd (omega (arith, ints, e, product))
step_positive (pos a) (negsuc t) f d over under p q o e h = absurd (omega (arith, ints, e, q))
step_positive (negsuc a) z f d over under p q o e h =
    let product = mul-pos o q in absurd (omega (arith, ints, h, product))

-- ---- both ways of rounding
-- rounding down and up give the same for a whole number only
pub floors_meet : (a : ℤ) (f d : ℕ) (y z : ℤ) → 0 < d → y ≡ int_div_euclid (pos f *ℤ a) (pos d) →
    z ≡ int_div_euclid (pos f *ℤ neg_ℤ a) (pos d) → y ≡ neg_ℤ z → (pos f *ℤ a) ≡ (y *ℤ pos d)
floors_meet a f d y z p e g h =
    let low = floor_low (pos f *ℤ a) d p in
    let high = floor_low (pos f *ℤ neg_ℤ a) d p in
    let sign = *ℤ-neg (pos f) a in
    let turned : z ≡ neg_ℤ y = rw h (sym (neg_ℤ-neg_ℤ z)) in
    let other = *ℤ-neg (pos d) y in
    let up : (pos d *ℤ y) ≤ℤ (pos f *ℤ a) = subst (λ (x : ℤ). (pos d *ℤ x) ≤ℤ (pos f *ℤ a)) (sym e) low in
    let down : (pos d *ℤ neg_ℤ y) ≤ℤ (pos f *ℤ neg_ℤ a) = subst (λ (x : ℤ). (pos d *ℤ x) ≤ℤ (pos f *ℤ neg_ℤ a)) (sym g ∙ turned) high in
    let same : (pos f *ℤ a) ≡ (pos d *ℤ y) = omega (arith, linear, up, down, sign, other) in
    same ∙ *ℤ_comm (pos d) y

floor_of_whole : (a z : ℤ) (d : ℕ) → 0 < d → a ≡ z *ℤ pos d → int_div_euclid a (pos d) ≡ z
floor_of_whole a z d p e =
    let turned = *ℤ_comm z (pos d) in
    let positive : pos 0 <ℤ pos d = omega (arith, ints) in
    floor_is a z d p (omega (arith, linear, e, turned)) (omega (arith, linear, e, turned, positive))

-- and for each whole number they do
pub whole_floors : (a : ℤ) (f d : ℕ) (y z t : ℤ) → 0 < d → y ≡ int_div_euclid (pos f *ℤ a) (pos d) →
    z ≡ int_div_euclid (pos f *ℤ neg_ℤ a) (pos d) → (pos f *ℤ a) ≡ (t *ℤ pos d) → y ≡ neg_ℤ z
whole_floors a f d y z t p e g h =
    let first : y ≡ t = e ∙ floor_of_whole (pos f *ℤ a) t d p h in
    let sign : (pos f *ℤ neg_ℤ a) ≡ (neg_ℤ t *ℤ pos d) = *ℤ-neg (pos f) a ∙ ap neg_ℤ h ∙ sym (neg-*ℤ t (pos d)) in
    let second : z ≡ neg_ℤ t = g ∙ floor_of_whole (pos f *ℤ neg_ℤ a) (neg_ℤ t) d p sign in
    first ∙ sym (neg_ℤ-neg_ℤ t) ∙ ap neg_ℤ (sym second)

-- what a floor that is given tells
pub floor_given : (f : ℕ) (v : Fraction) (z : ℤ) → Some z ≡ floor_times f v → z ≡ floor_of_multiple f v
floor_given f v z h = by (is_below_limit v) h
  where
    by : (b : Bool) → Some z ≡ cond b (Some (floor_of_multiple f v)) None → z ≡ floor_of_multiple f v
    by true h = same_some h
    by false h = absurd (cc)
