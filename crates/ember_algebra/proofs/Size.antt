-- Bounds on the absolute value, which say that a signed operation does not overflow.
use Rattle.std.proofs.Common.{◌≡◌, ℕ, ◌+◌, ◌*◌, ◌^◌, ◌≤◌, arith, T, ltb, ltb→lt, ℤ, ◌+ℤ◌, ◌-ℤ◌, ◌*ℤ◌, neg_ℤ, SFits, mul-le-mul}
use Rattle.std.proofs.lemmas.Int.{unsigned_abs-mul, fits_signed_from_abs}
use borrow.Author.Differences.{ints, fits_out}
use mir.Syntax.{Width}
use mir.Val.{hbits}
use Rattle.ember_algebra.specs.Size.{Small}

-- a bound may be replaced by a greater one
pub small_within : {m n : ℕ} {a : ℤ} → m ≤ n → Small m a → Small n a
small_within l p = record { small = omega (arith, p.small) }

-- the size of a product is at most the product of the bounds
pub small_mul : {m n : ℕ} {a b : ℤ} → Small m a → Small n b → Small (m * n) (a *ℤ b)
small_mul {m} {n} {a} {b} p q =
    record { small = omega (arith, unsigned_abs-mul a b, mul-le-mul p.small q.small) }

-- the size of a sum is at most the sum of the bounds
pub small_add : {m n : ℕ} {a b : ℤ} → Small m a → Small n b → Small (m + n) (a +ℤ b)
small_add {m} {n} {a} {b} p q = record { small = omega (arith, ints) }

-- the size of a difference is at most the sum of the bounds
pub small_sub : {m n : ℕ} {a b : ℤ} → Small m a → Small n b → Small (m + n) (a -ℤ b)
small_sub {m} {n} {a} {b} p q = record { small = omega (arith, ints) }

-- -a has the bound of a
pub small_neg : {m : ℕ} {a : ℤ} → Small m a → Small m (neg_ℤ a)
small_neg {m} {a} p = record { small = omega (arith, ints) }

-- a number with a bound below the width's half range fits into the width
pub fits_small : (w : Width) {m : ℕ} {a : ℤ} → Small m a → T (ltb m (2 ^ hbits w)) → SFits w a
fits_small w {m} {a} p t = fits_signed_from_abs w a (omega (arith, ltb→lt m (2 ^ hbits w) t, p.small))

-- what a signed type holds, and the same as a goal shows a parameter that is read: an input of code of its own
pub small_of_fits : (w : Width) {a : ℤ} → SFits w a → Small (2 ^ hbits w) a
small_of_fits w {a} f = record { small = omega (arith, ints, fits_out w a f) }

-- sums of equal integers are equal
pub same_add : {a b x y : ℤ} → a ≡ x → b ≡ y → a +ℤ b ≡ x +ℤ y
same_add p q = cc

-- differences of equal integers are equal
pub same_sub : {a b x y : ℤ} → a ≡ x → b ≡ y → a -ℤ b ≡ x -ℤ y
same_sub p q = cc

-- products of equal integers are equal
pub same_mul : {a b x y : ℤ} → a ≡ x → b ≡ y → a *ℤ b ≡ x *ℤ y
same_mul p q = cc
