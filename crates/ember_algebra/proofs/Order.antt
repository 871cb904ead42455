-- Order and signs of products of integers.
use Rattle.std.proofs.Common.{◌≡◌, ◌≢◌, ◌⊎◌, ⊎_elim, inl, inr, ℕ, zero, suc, ◌<◌, refl, sym, ap, ◌∙◌, arith, ℤ, pos}
use Rattle.std.proofs.Common.{negsuc, ◌+ℤ◌, ◌-ℤ◌, ◌*ℤ◌, neg_ℤ, ◌<ℤ◌, ◌≤ℤ◌, mul-pos}
use borrow.Author.Differences.{ints}
use Rattle.std.proofs.lemmas.Int.{by_lt_z}
use Rattle.ember_algebra.specs.Size.{Small}
use Rattle.ember_algebra.specs.Sign.{sign}
use Rattle.ember_algebra.proofs.Laws.{linear, neg-*ℤ, *ℤ-neg, one-*ℤ}
use lib.IntN.{*ℤ-zero, zero-*ℤ}
use Rattle.ember_algebra.proofs.Ring.{◌⊖◌, ◌⊗◌, ◌≈◌, neg, solve, cancels}

-- ---- cases
-- what follows from each of the three signs of an integer holds
pub by_sign : {P : Type 0} (a : ℤ) → (pos 0 <ℤ a → P) → (a ≡ pos 0 → P) → (a <ℤ pos 0 → P) → P
by_sign (pos zero) f g h = g refl
by_sign (pos (suc n)) f g h = f (omega (arith, ints))
by_sign (negsuc n) f g h = h (omega (arith, ints))

-- ---- the sign of a product
-- the product of two positive integers is positive
pub pos_mul : {a b : ℤ} → pos 0 <ℤ a → pos 0 <ℤ b → pos 0 <ℤ (a *ℤ b)
pos_mul {a} {b} p q = by a b p q
  where
    by : (a b : ℤ) → pos 0 <ℤ a → pos 0 <ℤ b → pos 0 <ℤ (a *ℤ b)
    by (pos a) (pos b) p q =
        let x : 0 < a = omega (arith, ints) in let y : 0 < b = omega (arith, ints) in omega (arith, ints, mul-pos x y)
    by (pos a) (negsuc b) p q = absurd (omega (arith, ints))
    by (negsuc a) b p q = absurd (omega (arith, ints))

-- the product of two numbers that aren't negative isn't negative
pub nonneg_mul : {a b : ℤ} → pos 0 ≤ℤ a → pos 0 ≤ℤ b → pos 0 ≤ℤ (a *ℤ b)
nonneg_mul {a} {b} p q = by a b p q
  where
    by : (a b : ℤ) → pos 0 ≤ℤ a → pos 0 ≤ℤ b → pos 0 ≤ℤ (a *ℤ b)
    by (pos a) (pos b) p q = omega (arith, ints)
    by (pos a) (negsuc b) p q = absurd (omega (arith, ints))
    by (negsuc a) b p q = absurd (omega (arith, ints))

-- a positive number times a negative one is negative
pub mul_pos_neg : {a b : ℤ} → pos 0 <ℤ a → b <ℤ pos 0 → (a *ℤ b) <ℤ pos 0
mul_pos_neg {a} {b} p q =
    let n : pos 0 <ℤ neg_ℤ b = omega (arith, linear) in omega (arith, linear, pos_mul p n, *ℤ-neg a b)

-- a negative number times a positive one is negative
pub mul_neg_pos : {a b : ℤ} → a <ℤ pos 0 → pos 0 <ℤ b → (a *ℤ b) <ℤ pos 0
mul_neg_pos {a} {b} p q =
    let n : pos 0 <ℤ neg_ℤ a = omega (arith, linear) in omega (arith, linear, pos_mul n q, neg-*ℤ a b)

-- the product of two negative numbers is positive
pub mul_neg_neg : {a b : ℤ} → a <ℤ pos 0 → b <ℤ pos 0 → pos 0 <ℤ (a *ℤ b)
mul_neg_neg {a} {b} p q =
    let m : pos 0 <ℤ neg_ℤ a = omega (arith, linear) in let n : pos 0 <ℤ neg_ℤ b = omega (arith, linear) in
    let e = solve 2 (λ a b. neg a ⊗ neg b ≈ a ⊗ b) cancels a b in
    omega (arith, linear, pos_mul m n, e)

-- a square isn't negative
pub square_nonneg : (a : ℤ) → pos 0 ≤ℤ (a *ℤ a)
square_nonneg (pos a) = omega (arith, ints)
square_nonneg (negsuc a) = omega (arith, ints)

-- the square of a number other than 0 is positive
pub square_pos : {a : ℤ} → a ≢ pos 0 → pos 0 <ℤ (a *ℤ a)
square_pos {a} n = by_sign a (λ p. pos_mul p p) (λ e. absurd (n e)) (λ p. mul_neg_neg p p)

-- ---- an inequality times a factor
-- a positive factor keeps the order of two integers
pub mul_lt : {c a b : ℤ} → pos 0 <ℤ c → a <ℤ b → (c *ℤ a) <ℤ (c *ℤ b)
mul_lt {c} {a} {b} p q =
    let d : pos 0 <ℤ (b -ℤ a) = omega (arith, linear) in
    omega (arith, linear, pos_mul p d, solve 3 (λ c a b. c ⊗ (b ⊖ a) ≈ c ⊗ b ⊖ c ⊗ a) cancels c a b)

-- both sides of ≤ may be multiplied by a number that isn't negative
pub mul_le : {c a b : ℤ} → pos 0 ≤ℤ c → a ≤ℤ b → (c *ℤ a) ≤ℤ (c *ℤ b)
mul_le {c} {a} {b} p q =
    let d : pos 0 ≤ℤ (b -ℤ a) = omega (arith, linear) in
    omega (arith, linear, nonneg_mul p d, solve 3 (λ c a b. c ⊗ (b ⊖ a) ≈ c ⊗ b ⊖ c ⊗ a) cancels c a b)

-- ---- a factor taken away
-- two products with a positive factor are in the order of the other factors
pub cancel_lt : {c a b : ℤ} → pos 0 <ℤ c → (c *ℤ a) <ℤ (c *ℤ b) → a <ℤ b
cancel_lt {c} {a} {b} p q =
    by_lt_z a b (λ h. h) (λ h. let c_le : pos 0 ≤ℤ c = omega (arith, linear) in omega (arith, linear, mul_le c_le h))

-- a positive factor may be cancelled on both sides of ≤
pub cancel_le : {c a b : ℤ} → pos 0 <ℤ c → (c *ℤ a) ≤ℤ (c *ℤ b) → a ≤ℤ b
cancel_le {c} {a} {b} p q = by_lt_z b a (λ h. omega (arith, linear, mul_lt p h)) (λ h. h)

-- if a product is 0, one of its factors is
pub zero_product : {a b : ℤ} → a *ℤ b ≡ pos 0 → (a ≡ pos 0) ⊎ (b ≡ pos 0)
zero_product {a} {b} e =
    by_sign a
    (λ p. by_sign b (λ q. absurd (omega (arith, linear, pos_mul p q))) (λ z. inr z) (λ q. absurd (omega (arith, linear, mul_pos_neg p q))))
    (λ z. inl z)
    (λ p. by_sign b (λ q. absurd (omega (arith, linear, mul_neg_pos p q))) (λ z. inr z) (λ q. absurd (omega (arith, linear, mul_neg_neg p q))))

-- a factor other than 0 may be cancelled on both sides of an equation
pub cancel_eq : {c a b : ℤ} → c ≢ pos 0 → c *ℤ a ≡ c *ℤ b → a ≡ b
cancel_eq {c} {a} {b} n e =
    ⊎_elim (λ z. absurd (n z)) (λ z. omega (arith, linear)) (zero_product (solve 3 (λ c a b. c ⊗ (a ⊖ b) ≈ c ⊗ a ⊖ c ⊗ b) cancels c a b ∙ difference_zero e))
  where
    difference_zero : {x y : ℤ} → x ≡ y → x -ℤ y ≡ pos 0
    difference_zero e = omega (arith, linear)

-- ---- `sign`
-- the sign of a positive integer is 1
pub sign_pos : {a : ℤ} → pos 0 <ℤ a → sign a ≡ pos 1
sign_pos {a} p = by a p
  where
    by : (a : ℤ) → pos 0 <ℤ a → sign a ≡ pos 1
    by (pos zero) p = absurd (omega (arith, ints))
    by (pos (suc n)) p = refl
    by (negsuc n) p = absurd (omega (arith, ints))

-- the sign of a negative number is -1
pub sign_neg : {a : ℤ} → a <ℤ pos 0 → sign a ≡ negsuc 0
sign_neg {a} p = by a p
  where
    by : (a : ℤ) → a <ℤ pos 0 → sign a ≡ negsuc 0
    by (pos n) p = absurd (omega (arith, ints))
    by (negsuc n) p = refl

-- an integer with the sign 1 is positive
pub pos_from_sign : (a : ℤ) → sign a ≡ pos 1 → pos 0 <ℤ a
pos_from_sign (pos zero) e = absurd (omega (arith, ints))
pos_from_sign (pos (suc n)) e = omega (arith, ints)
pos_from_sign (negsuc n) e = cc

-- a number with the sign 0 is 0
pub zero_from_sign : (a : ℤ) → sign a ≡ pos 0 → a ≡ pos 0
zero_from_sign (pos zero) e = refl
zero_from_sign (pos (suc n)) e = absurd (omega (arith, ints))
zero_from_sign (negsuc n) e = cc

-- the sign of a product is the product of the signs
pub sign-mul : (a b : ℤ) → sign (a *ℤ b) ≡ sign a *ℤ sign b
sign-mul a b =
    by_sign a
    (λ p. by_sign b (λ q. rw (sign_pos p, sign_pos q, sign_pos (pos_mul p q))) (λ z. zero_right z)
    (λ q. rw (sign_pos p, sign_neg q, sign_neg (mul_pos_neg p q))))
    (λ z. zero_left z)
    (λ p. by_sign b (λ q. rw (sign_neg p, sign_pos q, sign_neg (mul_neg_pos p q))) (λ z. zero_right z)
    (λ q. rw (sign_neg p, sign_neg q, sign_pos (mul_neg_neg p q))))
  where
    zero_right : b ≡ pos 0 → sign (a *ℤ b) ≡ sign a *ℤ sign b
    zero_right z = rw z (ap sign (*ℤ-zero a) ∙ sym (*ℤ-zero (sign a)))

    zero_left : a ≡ pos 0 → sign (a *ℤ b) ≡ sign a *ℤ sign b
    zero_left z = rw z (ap sign (zero-*ℤ b) ∙ sym (zero-*ℤ (sign b)))

-- the sign of -a is the opposite of the sign of a
pub sign-neg : (a : ℤ) → sign (neg_ℤ a) ≡ neg_ℤ (sign a)
sign-neg (pos zero) = refl
sign-neg (pos (suc n)) = refl
sign-neg (negsuc n) = refl

-- a positive factor does not matter
pub sign_scaled : {c : ℤ} (a : ℤ) → pos 0 <ℤ c → sign (c *ℤ a) ≡ sign a
sign_scaled {c} a p = sign-mul c a ∙ rw (sign_pos p) (omega (arith, linear, one-*ℤ (sign a)))

-- ---- a large factor: the sign of a * M + v is that of a, or of v if a is 0
-- a positive integer times n, plus an integer below n in size, is positive
pub large_pos : {m n : ℕ} {a v : ℤ} → Small m v → m < n → pos 0 <ℤ a → pos 0 <ℤ (a *ℤ pos n +ℤ v)
large_pos {m} {n} {a} {v} s l p = by a p
  where
    by : (a : ℤ) → pos 0 <ℤ a → pos 0 <ℤ (a *ℤ pos n +ℤ v)
    by (pos zero) p = absurd (omega (arith, ints))
    by (pos (suc k)) p = omega (arith, ints, s.small)
    by (negsuc k) p = absurd (omega (arith, ints))

-- a linear function with a negative slope is negative at a large number
pub large_neg : {m n : ℕ} {a v : ℤ} → Small m v → m < n → a <ℤ pos 0 → (a *ℤ pos n +ℤ v) <ℤ pos 0
large_neg {m} {n} {a} {v} s l p = by a p
  where
    by : (a : ℤ) → a <ℤ pos 0 → (a *ℤ pos n +ℤ v) <ℤ pos 0
    by (pos k) p = absurd (omega (arith, ints))
    by (negsuc k) p = omega (arith, ints, s.small)

-- ---- fractions, by cross multiplication: a/b < c/d and c/d < e/f
-- the order of fractions with positive denominators, by cross products, is transitive
pub cross_trans : (a c e : ℤ) {b d f : ℤ} → pos 0 <ℤ b → pos 0 <ℤ d → pos 0 <ℤ f → (a *ℤ d) <ℤ (c *ℤ b) → (c *ℤ f) <ℤ (e *ℤ d) → (a *ℤ f) <ℤ (e *ℤ b)
cross_trans a c e {b} {d} {f} pb pd pf h k =
    let x = mul_lt pf h in let y = mul_lt pb k in
    cancel_lt pd (omega (
      arith,
      linear,
      x,
      y,
      solve 3 (λ d a f. d ⊗ (a ⊗ f) ≈ f ⊗ (a ⊗ d)) cancels d a f,
      solve 3 (λ f c b. f ⊗ (c ⊗ b) ≈ b ⊗ (c ⊗ f)) cancels f c b,
      solve 3 (λ d e b. b ⊗ (e ⊗ d) ≈ d ⊗ (e ⊗ b)) cancels d e b,
    ))
