-- Common divisors of lists, and lists in lowest terms that are in proportion.
use Rattle.std.proofs.Common.{◌≡◌, ◌≢◌, ◌⊎◌, inl, inr, ⊎_elim, ℕ, zero, suc, ◌*◌, ◌/◌, ◌<◌, ◌≤◌, List, [], ◌∷◌}
use Rattle.std.proofs.Common.{◌++◌, ℤ, pos, negsuc, ◌*ℤ◌, unsigned_abs, SFits, to_z, of_z, to_z-of_z, refl, sym, ap}
use Rattle.std.proofs.Common.{subst, ◌∙◌, arith}
use mir.Syntax.{Width}
use Rattle.std.specs.Int.{IsGcd, ◌∣◌}
use Rattle.std.proofs.lemmas.Int.{ints, unsigned_abs-mul}
use Rattle.std.proofs.lemmas.Nat.Gcd.{dvd-zero, dvd_antisymm, dvd_trans, le_of_dvd}
use Rattle.std.proofs.Math.Nat.{mul-dvd-mul_left, dvd_of_mul-dvd-mul_left, dvd-mul_right, mul-div_cancel', eq-zero_of_zero-dvd, one-dvd}
use Rattle.ember_algebra.specs.Relations.{Every}
use Rattle.ember_algebra.specs.Size.{Small}
use Rattle.ember_algebra.proofs.Relations.{every_append}
use Rattle.ember_algebra.proofs.CommonDivisors.{gcd_within}
use Rattle.mesh_certificate.specs.Key.Divisors.{Divides, IsGreatestDivisor, AreLowest}

-- ---- each two numbers have a greatest common divisor
-- what divides k times two numbers divides k times their greatest common divisor
divides_multiple_of_gcd : (k a b g d : ℕ) → IsGcd a b g → d ∣ k * a → d ∣ k * b → d ∣ k * g
divides_multiple_of_gcd zero a b g d i p q = subst (λ n. d ∣ n) (omega arith) (dvd-zero d)
divides_multiple_of_gcd (suc k) a b g d i p q =
    let h = gcd_within (suc k * b) (suc k * a) (suc k * b) (omega arith) in
    let s = h.is.2 (suc k) (dvd-mul_right (suc k) a) (dvd-mul_right (suc k) b) in
    let e : suc k * (h.divisor / suc k) ≡ h.divisor = mul-div_cancel' (suc k) s in
    let up = by (h.divisor / suc k) (subst (λ n. n ∣ suc k * a) (sym e) h.is.0) (subst (λ n. n ∣ suc k * b) (sym e) h.is.1) in
    dvd_trans d (h.is.2 d p q) (subst (λ n. n ∣ suc k * g) e up)
  where
    by : (t : ℕ) → (suc k * t) ∣ (suc k * a) → (suc k * t) ∣ (suc k * b) → (suc k * t) ∣ (suc k * g)
    by t p q =
        mul-dvd-mul_left t (suc k) (i.2 t (dvd_of_mul-dvd-mul_left t (omega arith) p) (dvd_of_mul-dvd-mul_left t (omega arith) q))

-- ---- a list's greatest common divisor
record HasContent (zs : List ℤ) : Type 0 where
  content : ℕ
  divides : Divides content zs
  multiples : (d k : ℕ) → Every (λ z. d ∣ k * unsigned_abs z) zs → d ∣ k * content

divides_all : (d g : ℕ) (zs : List ℤ) → d ∣ g → Divides g zs → Divides d zs
divides_all d g [] h p = tt
divides_all d g (z ∷ zs) h p = (dvd_trans d h p.0, divides_all d g zs h p.1)

content_of : (zs : List ℤ) → HasContent zs
content_of [] = record { content = 0; divides = tt; multiples = λ d k p. subst (λ n. d ∣ n) (omega arith) (dvd-zero d) }
content_of (z ∷ zs) =
    let c = content_of zs in let h = gcd_within c.content (unsigned_abs z) c.content (omega arith) in
    record {
      content = h.divisor;
      divides = (h.is.0, divides_all h.divisor c.content zs h.is.1 c.divides);
      multiples =
          λ d k p. divides_multiple_of_gcd k (unsigned_abs z) c.content h.divisor d h.is p.0 (c.multiples d k p.1);
    }

-- what divides k times each number of a list in lowest terms divides k
divides_factor : (d k : ℕ) (zs : List ℤ) → AreLowest zs → Every (λ z. d ∣ k * unsigned_abs z) zs → d ∣ k
divides_factor d k zs l p =
    let c = content_of zs in let e : c.content ≡ 1 = l.lowest c.content c.divides in
    subst (λ n. d ∣ n) (ap (λ (n : ℕ). k * n) e ∙ omega arith) (c.multiples d k p)

-- ---- lists in proportion
-- j times each number of the one list is k times that of the other
abbrev pub AreProportional : ℤ → ℤ → List ℤ → List ℤ → Type 0
AreProportional j k [] [] = Unit {0}
AreProportional j k [] (v ∷ vs) = ⊥
AreProportional j k (u ∷ us) [] = ⊥
AreProportional j k (u ∷ us) (v ∷ vs) = (j *ℤ u ≡ k *ℤ v) × AreProportional j k us vs

sizes : (j k u v : ℤ) → j *ℤ u ≡ k *ℤ v → unsigned_abs j * unsigned_abs u ≡ unsigned_abs k * unsigned_abs v
sizes j k u v e = sym (unsigned_abs-mul j u) ∙ ap unsigned_abs e ∙ unsigned_abs-mul k v

divides_second : (j k : ℤ) (us vs : List ℤ) → AreProportional j k us vs → Every (λ v. unsigned_abs j ∣ unsigned_abs k * unsigned_abs v) vs
divides_second j k [] [] p = tt
divides_second j k [] (v ∷ vs) p = absurd p
divides_second j k (u ∷ us) [] p = absurd p
divides_second j k (u ∷ us) (v ∷ vs) p =
    (subst (λ n. unsigned_abs j ∣ n) (sizes j k u v p.0) (dvd-mul_right (unsigned_abs j) (unsigned_abs u)), divides_second j k us vs p.1)

proportional_swap : (j k : ℤ) (us vs : List ℤ) → AreProportional j k us vs → AreProportional k j vs us
proportional_swap j k [] [] p = tt
proportional_swap j k [] (v ∷ vs) p = absurd p
proportional_swap j k (u ∷ us) [] p = absurd p
proportional_swap j k (u ∷ us) (v ∷ vs) p = (sym p.0, proportional_swap j k us vs p.1)

-- lists in lowest terms that are in proportion are so by factors of one size
pub factors_have_one_size : (j k : ℤ) (us vs : List ℤ) → AreProportional j k us vs → AreLowest us → AreLowest vs → unsigned_abs j ≡ unsigned_abs k
factors_have_one_size j k us vs p lu lv =
    dvd_antisymm (divides_factor (unsigned_abs j) (unsigned_abs k) vs lv (divides_second j k us vs p))
    (divides_factor (unsigned_abs k) (unsigned_abs j) us lu
    (divides_second k j vs us (proportional_swap j k us vs p)))

-- ---- quotients
abbrev pub AreMultiples : ℤ → List ℤ → List ℤ → Type 0
AreMultiples d [] [] = Unit {0}
AreMultiples d [] (u ∷ us) = ⊥
AreMultiples d (v ∷ vs) [] = ⊥
AreMultiples d (v ∷ vs) (u ∷ us) = (d *ℤ v ≡ u) × AreMultiples d vs us

-- a divisor of the quotients, times the divisor, divides the numbers
divides_up : (d : ℤ) (k : ℕ) (vs us : List ℤ) → AreMultiples d vs us → Divides k vs → Divides (unsigned_abs d * k) us
divides_up d k [] [] m p = tt
divides_up d k [] (u ∷ us) m p = absurd m
divides_up d k (v ∷ vs) [] m p = absurd m
divides_up d k (v ∷ vs) (u ∷ us) m p = (
  subst (λ n. unsigned_abs d * k ∣ n) (sym (unsigned_abs-mul d v) ∙ ap unsigned_abs m.0)
      (mul-dvd-mul_left k (unsigned_abs d) p.0),
  divides_up d k vs us m.1 p.1,
)

-- numbers divided by their greatest common divisor, or its negative, are in lowest terms
pub quotients_are_lowest : (g : ℕ) (d : ℤ) (vs us : List ℤ) → IsGreatestDivisor us g → unsigned_abs d ≡ g → 0 < g → AreMultiples d vs us → AreLowest vs
quotients_are_lowest g d vs us i e l m =
    record {
      lowest = λ k p. dvd_antisymm (dvd_of_mul-dvd-mul_left {k =
          g} k l (subst (λ (n : ℕ). g * k ∣ n) (omega arith)
          (i.greatest (g * k) (subst (λ (n : ℕ). Divides (n * k) us) e (divides_up d k vs us m p))))) (one-dvd k);
    }

-- they are if the greatest common divisor is 1
pub lowest_where_one : (us : List ℤ) (g : ℕ) → IsGreatestDivisor us g → g ≡ 1 → AreLowest us
lowest_where_one us g i e =
    record { lowest = λ k p. dvd_antisymm (subst (λ (n : ℕ). k ∣ n) e (i.greatest k p)) (one-dvd k) }

-- ---- a greatest common divisor of 0
-- an integer that 0 divides is 0
pub divides_zero : (z : ℤ) → 0 ∣ unsigned_abs z → z ≡ pos 0
divides_zero z h = let e = eq-zero_of_zero-dvd h in omega (arith, ints, e)

-- integers that 0 divides are all 0
pub all_zero : (us : List ℤ) → Divides 0 us → Every (λ z. z ≡ pos 0) us
all_zero [] p = tt
all_zero (u ∷ us) p = (divides_zero u p.0, all_zero us p.1)

-- ---- one number more
divides_front : (d : ℕ) (zs us : List ℤ) → Divides d (zs ++ us) → Divides d zs
divides_front d [] us p = tt
divides_front d (z ∷ zs) us p = (p.0, divides_front d zs us p.1)

divides_back : (d : ℕ) (zs us : List ℤ) → Divides d (zs ++ us) → Divides d us
divides_back d [] us p = p
divides_back d (z ∷ zs) us p = divides_back d zs us p.1

-- the greatest common divisor of two sizes is that of the two integers
pub greatest_divisor_of_two : (a b : ℤ) (g : ℕ) → IsGcd (unsigned_abs a) (unsigned_abs b) g → IsGreatestDivisor (a ∷ b ∷ []) g
greatest_divisor_of_two a b g h = record { divides = (h.0, (h.1, tt)); greatest = λ k p. h.2 k p.0 p.1.0 }

-- one more number in a greatest common divisor
pub greatest_divisor_more : (zs : List ℤ) (z : ℤ) (d g : ℕ) → IsGreatestDivisor zs d → IsGcd d (unsigned_abs z) g → IsGreatestDivisor (zs ++ z ∷ []) g
greatest_divisor_more zs z d g i h =
    record {
      divides = every_append (λ y. g ∣ unsigned_abs y) zs (z ∷ []) (divides_all g d zs h.0 i.divides) (h.1, tt);
      greatest = λ k p. h.2 k (i.greatest k (divides_front k zs (z ∷ []) p)) (divides_back k zs (z ∷ []) p).0;
    }

-- equal numbers have the same greatest common divisor
pub same_gcd : {m n k l g : ℕ} → m ≡ k → n ≡ l → IsGcd m n g → IsGcd k l g
same_gcd {m} {n} {k} {l} {g} e f h =
    (subst (λ (x : ℕ). g ∣ x) e h.0, subst (λ (x : ℕ). g ∣ x) f h.1, λ d p q. h.2 d (subst (λ (x : ℕ). d ∣ x) (sym e) p) (subst (λ (x : ℕ). d ∣ x) (sym f) q))

-- what the code reads as the size of a number
pub size_read : (w : Width) {z : ℤ} {n : ℕ} → SFits w z → n ≡ unsigned_abs (to_z w (of_z w z)) → n ≡ unsigned_abs z
size_read w f e = e ∙ ap unsigned_abs (to_z-of_z f)

-- a greatest common divisor with a number other than 0 isn't 0
pub gcd_nonzero : {a b g : ℕ} → IsGcd a b g → a ≢ 0 → g ≢ 0
gcd_nonzero {a} {b} {g} h n z = n (eq-zero_of_zero-dvd (subst (λ (x : ℕ). x ∣ a) z h.0))

-- ---- how large a greatest common divisor is
zero_divides : (zs : List ℤ) → Every (λ z. z ≡ pos 0) zs → Divides 0 zs
zero_divides [] p = tt
zero_divides (z ∷ zs) p = (subst (λ (n : ℤ). 0 ∣ unsigned_abs n) (sym p.0) (dvd-zero 0), zero_divides zs p.1)

below_nonzero : (m g : ℕ) (z : ℤ) → 0 < unsigned_abs z → g ∣ unsigned_abs z → Small m z → g ≤ m
below_nonzero m g z l h s = omega (arith, le_of_dvd l h, s.small)

zero_or_within : (m g : ℕ) (zs : List ℤ) → Divides g zs → Every (λ z. Small m z) zs → Every (λ z. z ≡ pos 0) zs ⊎ (g ≤ m)
zero_or_within m g [] h s = inl tt
zero_or_within m g (pos zero ∷ zs) h s = ⊎_elim (λ e. inl (refl, e)) (λ l. inr l) (zero_or_within m g zs h.1 s.1)
zero_or_within m g (pos (suc n) ∷ zs) h s = inr (below_nonzero m g (pos (suc n)) (omega (arith, ints)) h.0 s.0)
zero_or_within m g (negsuc n ∷ zs) h s = inr (below_nonzero m g (negsuc n) (omega (arith, ints)) h.0 s.0)

-- no larger than the numbers
pub greatest_divisor_small : (m g : ℕ) (zs : List ℤ) → IsGreatestDivisor zs g → Every (λ z. Small m z) zs → Small m (pos g)
greatest_divisor_small m g zs i s =
    record {
      small = ⊎_elim (λ z. let e = eq-zero_of_zero-dvd (i.greatest 0 (zero_divides zs z)) in
          omega (arith, ints)) (λ l. omega (arith, ints)) (zero_or_within m g zs i.divides s);
    }
