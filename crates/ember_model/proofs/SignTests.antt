-- What the tests of signs say, tests of all elements of a list, and members of lists.
use Rattle.std.proofs.Common.{◌≡◌, ◌≢◌, ◌⊎◌, inl, inr, refl, sym, ap, subst, ◌∙◌, arith, T, Bool, true, false, not}
use Rattle.std.proofs.Common.{◌&&◌, ◌||◌, List, [], ◌∷◌, ℤ, pos, negsuc, zero, suc, ◌*ℤ◌, ◌<ℤ◌, ◌≤ℤ◌, ◌-ℤ◌, neg_ℤ}
use Rattle.std.specs.List.{list_any}
use borrow.Author.Differences.{ints}
use lib.Signed.{lt_z}
use Rattle.std.proofs.lemmas.Int.{by_lt_z}
use lib.IntN.{*ℤ-zero, zero-*ℤ}
use Rattle.ember_algebra.specs.declared.Sign.{Sign}
use Rattle.ember_algebra.specs.declared.Sign.TheVariants.{Neg, Zero, Pos}
use Rattle.ember_algebra.specs.Sign.{sgn, times, is_negative, is_zero, is_positive, same_sgn, is_pos}
use Rattle.ember_algebra.proofs.Laws.{linear}
use Rattle.ember_algebra.proofs.Signs.{sgn-mul, sgn_pos, sgn-neg, is_pos-flip}
use Rattle.ember_model.specs.Faces.{size}

-- equal arguments give equal values of a function of two
pub ap2 : {A B C : Type 0} (f : A → B → C) {a a' : A} {b b' : B} → a ≡ a' → b ≡ b' → f a b ≡ f a' b'
ap2 f p q = λ i. f (p i) (q i)

-- ---- signs
-- a positive factor doesn't change the sign
pub sgn_scaled : {c : ℤ} (a : ℤ) → pos 0 <ℤ c → sgn (c *ℤ a) ≡ sgn a
sgn_scaled {c} a p = sgn-mul c a ∙ ap (λ (s : Sign). times s (sgn a)) (sgn_pos p)

-- signs that the test takes to be equal are equal
pub same_sgn_out : (s t : Sign) → T (same_sgn s t) → s ≡ t
same_sgn_out Neg Neg t = refl
same_sgn_out Neg Zero t = absurd t
same_sgn_out Neg Pos t = absurd t
same_sgn_out Zero Neg t = absurd t
same_sgn_out Zero Zero t = refl
same_sgn_out Zero Pos t = absurd t
same_sgn_out Pos Neg t = absurd t
same_sgn_out Pos Zero t = absurd t
same_sgn_out Pos Pos t = refl

-- ---- from a fact to its test
-- an integer below 0 passes the test
pub negative_in : {a : ℤ} → a <ℤ pos 0 → is_negative a ≡ true
negative_in {a} p = by a p
  where
    by : (a : ℤ) → a <ℤ pos 0 → is_negative a ≡ true
    by (pos zero) p = absurd (omega (arith, ints))
    by (pos (suc n)) p = absurd (omega (arith, ints))
    by (negsuc n) p = refl

-- the test for negative numbers answers false of the others
pub negative_not : (a : ℤ) → pos 0 ≤ℤ a → is_negative a ≡ false
negative_not (pos zero) p = refl
negative_not (pos (suc n)) p = refl
negative_not (negsuc n) p = absurd (omega (arith, ints))

-- the test for positive numbers answers true of them
pub positive_in : {a : ℤ} → pos 0 <ℤ a → is_positive a ≡ true
positive_in {a} p = by a p
  where
    by : (a : ℤ) → pos 0 <ℤ a → is_positive a ≡ true
    by (pos zero) p = absurd (omega (arith, ints))
    by (pos (suc n)) p = refl
    by (negsuc n) p = absurd (omega (arith, ints))

-- the test for numbers that aren't positive answers true of them
pub not_positive_in : (a : ℤ) → a ≤ℤ pos 0 → not (is_positive a) ≡ true
not_positive_in (pos zero) p = refl
not_positive_in (pos (suc n)) p = absurd (omega (arith, ints))
not_positive_in (negsuc n) p = refl

-- the test answers true of 0
pub zero_in : {a : ℤ} → a ≡ pos 0 → is_zero a ≡ true
zero_in e = ap is_zero e

-- a number less itself passes the test for 0
pub is_zero-self : (z : ℤ) → is_zero (z -ℤ z) ≡ true
is_zero-self z = let e : z -ℤ z ≡ pos 0 = omega (arith, linear) in ap is_zero e

-- the test for negative numbers answers false of positive ones
pub positive_not_negative : {z : ℤ} → pos 0 <ℤ z → is_negative z ≡ false
positive_not_negative {z} p = negative_not z (omega (arith, linear))

-- the opposite is negative if the number is positive
pub is_negative-neg : (z : ℤ) → is_negative (neg_ℤ z) ≡ is_positive z
is_negative-neg (pos zero) = refl
is_negative-neg (pos (suc n)) = refl
is_negative-neg (negsuc n) = refl

-- the opposite is positive if the number is negative
pub is_positive-neg : (a : ℤ) → is_positive (neg_ℤ a) ≡ is_negative a
is_positive-neg a = ap is_pos (sgn-neg a) ∙ is_pos-flip (sgn a)

-- the opposite is 0 if the number is
pub is_zero-neg : (a : ℤ) → is_zero (neg_ℤ a) ≡ is_zero a
is_zero-neg (pos zero) = refl
is_zero-neg (pos (suc n)) = refl
is_zero-neg (negsuc n) = refl

-- ---- from a test to its fact
-- an integer that passes the test is below 0
pub negative_out : (a : ℤ) → is_negative a ≡ true → a <ℤ pos 0
negative_out (pos zero) e = cc
negative_out (pos (suc n)) e = cc
negative_out (negsuc n) e = omega (arith, ints)

-- a number that the test takes to be positive is positive
pub positive_out : (a : ℤ) → is_positive a ≡ true → pos 0 <ℤ a
positive_out (pos zero) e = cc
positive_out (pos (suc n)) e = omega (arith, ints)
positive_out (negsuc n) e = cc

-- a number that fails the test for others is positive
pub positive_from_not : (a : ℤ) → not (is_positive a) ≡ false → pos 0 <ℤ a
positive_from_not (pos zero) e = cc
positive_from_not (pos (suc n)) e = omega (arith, ints)
positive_from_not (negsuc n) e = cc

-- a number that the test doesn't take to be positive is at most 0
pub not_positive_out : (a : ℤ) → not (is_positive a) ≡ true → a ≤ℤ pos 0
not_positive_out (pos zero) e = omega (arith, ints)
not_positive_out (pos (suc n)) e = cc
not_positive_out (negsuc n) e = omega (arith, ints)

-- a number that the test takes to be 0 is 0
pub zero_out : (a : ℤ) → is_zero a ≡ true → a ≡ pos 0
zero_out (pos zero) e = refl
zero_out (pos (suc n)) e = cc
zero_out (negsuc n) e = cc

-- no Boolean is both true and false
pub clash : {b : Bool} → b ≡ true → b ≡ false → ⊥
clash {b} p q = by (sym p ∙ q)
  where
    by : true ≡ false → ⊥
    by e = cc

-- a number that the test doesn't take to be 0 isn't 0
pub nonzero_out : (a : ℤ) → is_zero a ≡ false → a ≢ pos 0
nonzero_out a e q = clash (ap is_zero q) e

-- a number that the test doesn't take to be negative is at least 0
pub negative_not_out : (z : ℤ) → is_negative z ≡ false → pos 0 ≤ℤ z
negative_not_out (pos zero) e = omega (arith, ints)
negative_not_out (pos (suc n)) e = omega (arith, ints)
negative_not_out (negsuc n) e = absurd (clash refl e)

-- a number that passes the test for others than negative ones is at least 0
pub not_negative_out : (a : ℤ) → not (is_negative a) ≡ true → pos 0 ≤ℤ a
not_negative_out (pos n) e = omega (arith, ints)
not_negative_out (negsuc n) e = absurd (cc)

-- no number is both 0 and negative
pub zero_not_negative : (z : ℤ) → is_zero z ≡ true → is_negative z ≡ true → ⊥
zero_not_negative z e q = let a = zero_out z e in let b = negative_out z q in omega (arith, linear, a, b)

-- of three numbers none of which is negative, and that aren't all 0, one is positive
pub some_positive : (x y z : ℤ) → pos 0 ≤ℤ x → pos 0 ≤ℤ y → pos 0 ≤ℤ z → is_zero x && (is_zero y && is_zero z) ≡ false →
    (pos 0 <ℤ x) ⊎ ((pos 0 <ℤ y) ⊎ (pos 0 <ℤ z))
some_positive (pos (suc n)) y z a b c e = inl (omega (arith, ints))
some_positive (negsuc n) y z a b c e = absurd (omega (arith, ints, a))
some_positive (pos zero) (pos (suc n)) z a b c e = inr (inl (omega (arith, ints)))
some_positive (pos zero) (negsuc n) z a b c e = absurd (omega (arith, ints, b))
some_positive (pos zero) (pos zero) (pos (suc n)) a b c e = inr (inr (omega (arith, ints)))
some_positive (pos zero) (pos zero) (negsuc n) a b c e = absurd (omega (arith, ints, c))
some_positive (pos zero) (pos zero) (pos zero) a b c e = absurd (clash refl e)

-- of three numbers none of which is positive, and that aren't all 0, one is negative
pub some_negative : (x y z : ℤ) → x ≤ℤ pos 0 → y ≤ℤ pos 0 → z ≤ℤ pos 0 → is_zero x && (is_zero y && is_zero z) ≡ false →
    (x <ℤ pos 0) ⊎ ((y <ℤ pos 0) ⊎ (z <ℤ pos 0))
some_negative (pos (suc n)) y z a b c e = absurd (omega (arith, ints, a))
some_negative (negsuc n) y z a b c e = inl (omega (arith, ints))
some_negative (pos zero) (pos (suc n)) z a b c e = absurd (omega (arith, ints, b))
some_negative (pos zero) (negsuc n) z a b c e = inr (inl (omega (arith, ints)))
some_negative (pos zero) (pos zero) (pos (suc n)) a b c e = absurd (omega (arith, ints, c))
some_negative (pos zero) (pos zero) (negsuc n) a b c e = inr (inr (omega (arith, ints)))
some_negative (pos zero) (pos zero) (pos zero) a b c e = absurd (clash refl e)

-- ---- numbers
-- a multiple of 0 is 0
pub zero_scaled : (k a : ℤ) → a ≡ pos 0 → k *ℤ a ≡ pos 0
zero_scaled k a e = ap (λ (z : ℤ). k *ℤ z) e ∙ *ℤ-zero k

-- 0 times a number is 0
pub zero_times : (a k : ℤ) → a ≡ pos 0 → a *ℤ k ≡ pos 0
zero_times a k e = ap (λ (z : ℤ). z *ℤ k) e ∙ zero-*ℤ k

-- a positive number isn't 0
pub positive_nonzero : {z : ℤ} → pos 0 <ℤ z → z ≢ pos 0
positive_nonzero p e = omega (arith, linear)

-- a negative number isn't 0
pub negative_nonzero : {z : ℤ} → z <ℤ pos 0 → z ≢ pos 0
negative_nonzero p e = omega (arith, linear)

-- the size of a number other than 0 is positive
pub size_positive : (z : ℤ) → z ≢ pos 0 → pos 0 <ℤ size z
size_positive (pos zero) nz = absurd (nz refl)
size_positive (pos (suc n)) nz = omega (arith, ints)
size_positive (negsuc n) nz = omega (arith, ints)

-- a size is at least 0
pub size_nonnegative : (z : ℤ) → pos 0 ≤ℤ size z
size_nonnegative z = omega (arith, ints)

-- ---- Booleans
-- a conjunction with false is false
pub and_false : (a b : Bool) → b ≡ false → a && b ≡ false
and_false true b e = e
and_false false b e = refl

-- a Boolean and true is the Boolean
pub and_true : (b : Bool) → b && true ≡ b
and_true true = refl
and_true false = refl

-- a Boolean whose negation is true is false
pub not_true : (b : Bool) → not b ≡ true → b ≡ false
not_true true e = cc
not_true false e = refl

-- ---- members of a list
-- the element occurs in the list
abbrev pub In : {A : Type 0} → A → List A → Type 0
In h [] = ⊥
In h (g ∷ gs) = (h ≡ g) ⊎ In h gs

-- a member that passes the test makes the test of the list true
pub any_from : {A : Type 0} (f : A → Bool) (h : A) (es : List A) → In h es → f h ≡ true → list_any f es ≡ true
any_from f h [] m e = absurd m
any_from f h (g ∷ gs) (inl p) e = ap (λ (b : Bool). b || list_any f gs) (ap f (sym p) ∙ e)
any_from f h (g ∷ gs) (inr m) e = by (f g) (any_from f h gs m e)
  where
    by : (b : Bool) → list_any f gs ≡ true → b || list_any f gs ≡ true
    by true r = refl
    by false r = r

pub record Found {A : Type 0} (f : A → Bool) (es : List A) : Type 0 where
  pub item : A
  pub member : In item es
  pub passes : f item ≡ true

-- if the test of a list is true, some member passes it
pub any_out : {A : Type 0} (f : A → Bool) (es : List A) → list_any f es ≡ true → Found f es
any_out f [] e = cc
any_out f (g ∷ gs) e = by (f g) refl e (any_out f gs)
  where
    more : Found f gs → Found f (g ∷ gs)
    more r = record { item = r.item; member = inr r.member; passes = r.passes }

    by : (b : Bool) → f g ≡ b → b || list_any f gs ≡ true → (list_any f gs ≡ true → Found f gs) → Found f (g ∷ gs)
    by true q r k = record { item = g; member = inl refl; passes = q }
    by false q r k = more (k r)

-- ---- tests of code
-- an integer that passes the test is less
pub less_out : (a b : ℤ) → lt_z a b ≡ true → a <ℤ b
less_out a b e = record { lt = subst (λ (x : Bool). T x) (sym e) tt }

-- numbers that fail the test are in the other order
pub not_less_out : (a b : ℤ) → lt_z a b ≡ false → b ≤ℤ a
not_less_out a b e = by_lt_z a b (λ l. absurd (subst (λ (x : Bool). T x) e l.lt)) (λ l. l)
