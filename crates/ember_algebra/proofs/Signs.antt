-- What follows from the signs of integers, by trying each.
use Rattle.std.proofs.Common.{◌≡◌, ◌≢◌, ℕ, zero, suc, refl, sym, ap, ◌∙◌, arith, Bool, true, false, not, T, eqb, eqb→eq}
use Rattle.std.proofs.Common.{ℤ, pos, negsuc, ◌+ℤ◌, ◌-ℤ◌, ◌*ℤ◌, neg_ℤ, ◌<ℤ◌}
use borrow.Author.Differences.{ints}
use lib.IntN.{*ℤ-zero, zero-*ℤ}
use Rattle.ember_algebra.specs.Sign.{Sign, Neg, Zero, Pos, sgn, flip, times, is_pos, is_neg, is_nil, same_sgn}
use Rattle.ember_algebra.proofs.Order.{by_sign, pos_mul, mul_pos_neg, mul_neg_pos, mul_neg_neg}
use Rattle.ember_algebra.proofs.Laws.{linear}

-- ---- what a sign says
-- the sign of a positive integer
pub sgn_pos : {a : ℤ} → pos 0 <ℤ a → sgn a ≡ Pos
sgn_pos {a} p = by a p
  where
    by : (a : ℤ) → pos 0 <ℤ a → sgn a ≡ Pos
    by (pos zero) p = absurd (omega (arith, ints))
    by (pos (suc n)) p = refl
    by (negsuc n) p = absurd (omega (arith, ints))

-- the sign of a negative number is Neg
pub sgn_neg : {a : ℤ} → a <ℤ pos 0 → sgn a ≡ Neg
sgn_neg {a} p = by a p
  where
    by : (a : ℤ) → a <ℤ pos 0 → sgn a ≡ Neg
    by (pos n) p = absurd (omega (arith, ints))
    by (negsuc n) p = refl

-- a number with the sign Pos is positive
pub pos_from_sgn : (a : ℤ) → T (is_pos (sgn a)) → pos 0 <ℤ a
pos_from_sgn (pos zero) t = absurd t
pos_from_sgn (pos (suc n)) t = omega (arith, ints)
pos_from_sgn (negsuc n) t = absurd t

-- a number with the sign Neg is negative
pub neg_from_sgn : (a : ℤ) → T (is_neg (sgn a)) → a <ℤ pos 0
neg_from_sgn (pos zero) t = absurd t
neg_from_sgn (pos (suc n)) t = absurd t
neg_from_sgn (negsuc n) t = omega (arith, ints)

-- a number with the sign Zero is 0
pub zero_from_sgn : (a : ℤ) → T (is_nil (sgn a)) → a ≡ pos 0
zero_from_sgn (pos zero) t = refl
zero_from_sgn (pos (suc n)) t = absurd t
zero_from_sgn (negsuc n) t = absurd t

-- the sign of a product is the product of the signs
pub sgn-mul : (a b : ℤ) → sgn (a *ℤ b) ≡ times (sgn a) (sgn b)
sgn-mul a b =
    by_sign a
    (λ p. by_sign b (λ q. rw (sgn_pos p, sgn_pos q, sgn_pos (pos_mul p q))) right (λ q. rw (sgn_pos p, sgn_neg q, sgn_neg (mul_pos_neg p q))))
    left
    (λ p. by_sign b (λ q. rw (sgn_neg p, sgn_pos q, sgn_neg (mul_neg_pos p q))) right (λ q. rw (sgn_neg p, sgn_neg q, sgn_pos (mul_neg_neg p q))))
  where
    times_null : (s : Sign) → times s Zero ≡ Zero
    times_null Neg = refl
    times_null Zero = refl
    times_null Pos = refl

    right : b ≡ pos 0 → sgn (a *ℤ b) ≡ times (sgn a) (sgn b)
    right z = rw z (ap sgn (*ℤ-zero a) ∙ sym (times_null (sgn a)))

    left : a ≡ pos 0 → sgn (a *ℤ b) ≡ times (sgn a) (sgn b)
    left z = rw z (ap sgn (zero-*ℤ b))

-- the sign of -a is the opposite of the sign of a
pub sgn-neg : (a : ℤ) → sgn (neg_ℤ a) ≡ flip (sgn a)
sgn-neg (pos zero) = refl
sgn-neg (pos (suc n)) = refl
sgn-neg (negsuc n) = refl

-- r can be the sign of a sum of numbers of the signs s and t
abbrev pub may_sum : Sign → Sign → Sign → Bool
may_sum Neg Neg r = is_neg r
may_sum Neg Zero r = is_neg r
may_sum Neg Pos r = true
may_sum Zero t r = same_sgn t r
may_sum Pos Neg r = true
may_sum Pos Zero r = is_pos r
may_sum Pos Pos r = is_pos r

same_self : (s : Sign) → T (same_sgn s s)
same_self Neg = tt
same_self Zero = tt
same_self Pos = tt

-- the sign of a sum is one that the signs of its terms allow
pub sum_may : (a b : ℤ) → T (may_sum (sgn a) (sgn b) (sgn (a +ℤ b)))
sum_may a b =
    by_sign a
    (λ p. by_sign b (λ q. let r : pos 0 <ℤ (a +ℤ b) = omega (arith, linear) in
    rw (sgn_pos p, sgn_pos q, sgn_pos r) tt) (λ z. let r : pos 0 <ℤ (a +ℤ b) = omega (arith, linear) in
    rw (sgn_pos p, ap sgn z, sgn_pos r) tt) (λ q. rw (sgn_pos p, sgn_neg q) tt))
    (λ z. let e : a +ℤ b ≡ b = omega (arith, linear) in rw (ap sgn z, ap sgn e) (same_self (sgn b)))
    (λ p. by_sign b (λ q. rw (sgn_neg p, sgn_pos q) tt) (λ z. let r : (a +ℤ b) <ℤ pos 0 = omega (arith, linear) in
    rw (sgn_neg p, ap sgn z, sgn_neg r) tt) (λ q. let r : (a +ℤ b) <ℤ pos 0 = omega (arith, linear) in
    rw (sgn_neg p, sgn_neg q, sgn_neg r) tt))

-- ---- each sign in turn
infixr 4 ◌⇒◌
abbrev pub ◌⇒◌ : Bool → Bool → Bool
true ⇒ b = b
false ⇒ b = true

-- the conclusion of a Boolean implication whose premise holds
pub use_if : (a b : Bool) → T (a ⇒ b) → T a → T b
use_if true b t s = t
use_if false b t s = absurd s

-- the same, where the conclusion is not computed unless the premise holds
abbrev pub given : Bool → (Unit {0} → Bool) → Bool
given true f = f tt
given false f = true

-- what is given under a condition that holds
pub use_given : (a : Bool) (f : Unit {0} → Bool) → T (given a f) → T a → T (f tt)
use_given true f t s = t
use_given false f t s = absurd s

abbrev pub Signs : ℕ → Type 0
Signs zero = Bool
Signs (suc n) = Sign → Signs n

abbrev all_of : Bool → Bool → Bool → Bool
all_of true true c = c
all_of true false c = false
all_of false b c = false

abbrev pub every : (n : ℕ) → Signs n → Bool
every zero b = b
every (suc n) f = all_of (every n (f Neg)) (every n (f Zero)) (every n (f Pos))

abbrev pub AtAll : (n : ℕ) → Signs n → Type 0
AtAll zero b = T b
AtAll (suc n) f = (s : Sign) → AtAll n (f s)

all_out : (a b c : Bool) → T (all_of a b c) → T a × T b × T c
all_out true true c t = (tt, tt, t)
all_out true false c t = absurd t
all_out false b c t = absurd t

each : (P : Sign → Type 0) → P Neg → P Zero → P Pos → (s : Sign) → P s
each P a b c Neg = a
each P a b c Zero = b
each P a b c Pos = c

-- `signs 2 (λ s t. ..) tt` proves it for all s and t
pub signs : (n : ℕ) (f : Signs n) → T (every n f) → AtAll n f
signs zero f t = t
signs (suc n) f t =
    let p = all_out (every n (f Neg)) (every n (f Zero)) (every n (f Pos)) t in
    λ s. each (λ s. AtAll n (f s)) (signs n (f Neg) p.0) (signs n (f Zero) p.1) (signs n (f Pos) p.2) s

-- the opposite sign is Neg if the sign is Pos
pub is_neg-flip : (s : Sign) → is_neg (flip s) ≡ is_pos s
is_neg-flip Neg = refl
is_neg-flip Zero = refl
is_neg-flip Pos = refl

-- the opposite sign is Pos if the sign is Neg
pub is_pos-flip : (s : Sign) → is_pos (flip s) ≡ is_neg s
is_pos-flip Neg = refl
is_pos-flip Zero = refl
is_pos-flip Pos = refl

-- a sign whose opposite is Zero is Zero
pub flip_zero : (t : Sign) → flip t ≡ Zero → t ≡ Zero
flip_zero Neg e = cc
flip_zero Zero e = refl
flip_zero Pos e = cc

-- ---- words of tests
infixr 6 ◌and◌
abbrev pub ◌and◌ : Bool → Bool → Bool
true and b = b
false and b = false

infixr 5 ◌or◌
abbrev pub ◌or◌ : Bool → Bool → Bool
true or b = true
false or b = b

abbrev pub same_z : ℤ → ℤ → Bool
same_z (pos a) (pos b) = eqb a b
same_z (pos a) (negsuc b) = false
same_z (negsuc a) (pos b) = false
same_z (negsuc a) (negsuc b) = eqb a b

-- numbers that the test takes to be equal are equal
pub same_z_out : (a b : ℤ) → T (same_z a b) → a ≡ b
same_z_out (pos a) (pos b) t = ap pos (eqb→eq a b t)
same_z_out (pos a) (negsuc b) t = absurd t
same_z_out (negsuc a) (pos b) t = absurd t
same_z_out (negsuc a) (negsuc b) t = ap negsuc (eqb→eq a b t)

abbrev pub pick : Bool → ℤ → ℤ
pick true z = z
pick false z = pos 0

-- a sum of three that is 0
abbrev pub zero_sum : Sign → Sign → Sign → Bool
zero_sum a b c = may_sum a b (flip c)

abbrev pub sum3 : Sign → Sign → Sign → Sign → Bool
sum3 a b c r = may_sum a b Neg and may_sum Neg c r or may_sum a b Zero and may_sum Zero c r or may_sum a b Pos and may_sum Pos c r

-- if c is 0, a and b have one sign
abbrev pub level_if_null : Sign → Sign → Sign → Bool
level_if_null a b c = is_nil c ⇒ same_sgn a b

-- ---- from equations to what signs may be
-- two true values are both true
pub both : (a b : Bool) → T a → T b → T (a and b)
both true b s t = t
both false b s t = absurd s

-- the signs of a b - c d = e k fit together
pub products_may : (a b c d e k : ℤ) → a *ℤ b -ℤ c *ℤ d ≡ e *ℤ k → T (may_sum (times (sgn a) (sgn b)) (flip (times (sgn c) (sgn d))) (times (sgn e) (sgn k)))
products_may a b c d e k h =
    rw (← sgn-mul a b, ← sgn-mul c d, ← sgn-mul e k, ← sgn-neg (c *ℤ d), ← h) (sum_may (a *ℤ b) (neg_ℤ (c *ℤ d)))

-- the signs of three products that add up to 0 fit together
pub zero_sum_from : (a b c d e k : ℤ) → a *ℤ b +ℤ c *ℤ d +ℤ e *ℤ k ≡ pos 0 →
    T (zero_sum (times (sgn a) (sgn b)) (times (sgn c) (sgn d)) (times (sgn e) (sgn k)))
zero_sum_from a b c d e k h =
    let m : neg_ℤ (e *ℤ k) ≡ a *ℤ b +ℤ c *ℤ d = omega (arith, linear) in
    rw (← sgn-mul a b, ← sgn-mul c d, ← sgn-mul e k, ← sgn-neg (e *ℤ k), m) (sum_may (a *ℤ b) (c *ℤ d))

-- the sign of a sum of three numbers fits their signs
pub sum3_from : (a b c n : ℤ) → a +ℤ b +ℤ c ≡ n → T (sum3 (sgn a) (sgn b) (sgn c) (sgn n))
sum3_from a b c n h =
    let f = signs 5 (λ a b c r m. may_sum a b m ⇒ may_sum m c r ⇒ sum3 a b c r) tt (sgn a) (sgn b) (sgn c) (sgn (a +ℤ b +ℤ c)) (sgn (a +ℤ b)) in
    rw (← h) (use_if _ _ (use_if _ _ f (sum_may a b)) (sum_may (a +ℤ b) c))

-- the signs fit together if a = b whenever c is 0
pub level_from : (a b c : ℤ) → (c ≡ pos 0 → a ≡ b) → T (level_if_null (sgn a) (sgn b) (sgn c))
level_from a b (pos zero) f = rw (f refl) (same_self (sgn b))
level_from a b (pos (suc n)) f = tt
level_from a b (negsuc n) f = tt

-- if c is 0 only if n is 0 too, their signs say so
pub null_from : (c n : ℤ) → (c ≡ pos 0 → n ≡ pos 0) → T (is_nil (sgn c) ⇒ is_nil (sgn n))
null_from (pos zero) n f = rw (f refl) tt
null_from (pos (suc c)) n f = tt
null_from (negsuc c) n f = tt

-- the sign of a number other than 0 isn't Zero
pub not_null : (a : ℤ) → a ≢ pos 0 → T (not (is_nil (sgn a)))
not_null (pos zero) n = absurd (n refl)
not_null (pos (suc k)) n = tt
not_null (negsuc k) n = tt

-- the signs of x, y - x and y fit together
pub step_may : (x y : ℤ) → T (may_sum (sgn x) (sgn (y -ℤ x)) (sgn y))
step_may x y = let e : x +ℤ (y -ℤ x) ≡ y = omega (arith, linear) in rw e at (sum_may x (y -ℤ x))

-- equal products have equal signs
pub same_products : (a b c d : ℤ) → a *ℤ b ≡ c *ℤ d → T (same_sgn (times (sgn a) (sgn b)) (times (sgn c) (sgn d)))
same_products a b c d e = rw (← sgn-mul a b, ← sgn-mul c d, e) (same_self (sgn (c *ℤ d)))

-- the sign of a product, from the signs of its factors
pub times_is_product : {s t : Sign} (x y : ℤ) → sgn x ≡ s → sgn y ≡ t → sgn (x *ℤ y) ≡ times s t
times_is_product x y p q = sgn-mul x y ∙ rw (p, q) refl
