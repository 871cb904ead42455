-- Numbers in order, sizes and greatest numbers, and what tests of code say of two numbers
use borrow.Author.Differences.{ints}
use Rattle.std.specs.Prelude.{int_lt}
use Rattle.std.proofs.Common.{◌≡◌, true, arith, ℤ, ◌<ℤ◌, false, ◌≤ℤ◌, int_le, ℕ, suc, pos, neg_ℤ, ◌*ℤ◌, ⊎_elim, zero, nat_lt, ◌<◌}
use Rattle.std.proofs.Common.{refl, negsuc, unsigned_abs, ◌≤◌, max}
use Rattle.std.proofs.Math.Nat.{le-max_left, le-max_right, max-le}
use Rattle.ember_algebra.proofs.Laws.{linear}
use Rattle.ember_algebra.proofs.Order.{zero_product}
use Rattle.ember_algebra.proofs.Ring.{◌⊗◌, ◌≈◌, neg, solve, cancels}

-- ---- tests of code
-- the test answers true of a number and a greater one
pub int_lt_in : (a b : ℤ) → a <ℤ b → int_lt a b ≡ true
int_lt_in a b h = grind (arith, ints)

-- the test answers false if the second number isn't greater
pub int_lt_not : (a b : ℤ) → b ≤ℤ a → int_lt a b ≡ false
int_lt_not a b h = grind (arith, ints)

-- of numbers that pass the test the second is greater
pub int_lt_out : (a b : ℤ) → int_lt a b ≡ true → a <ℤ b
int_lt_out a b h = grind (arith, ints)

-- the test answers true of numbers in order
pub int_le_in : (a b : ℤ) → a ≤ℤ b → int_le a b ≡ true
int_le_in a b h = grind (arith, ints)

-- numbers that pass the test are in order
pub int_le_out : (a b : ℤ) → int_le a b ≡ true → a ≤ℤ b
int_le_out a b e = grind (arith, ints)

-- of numbers that fail the test the first is greater
pub int_le_not_out : (a b : ℤ) → int_le a b ≡ false → b <ℤ a
int_le_not_out a b e = grind (arith, ints)

-- ---- numbers
-- a natural number and 1 is positive
pub suc_positive : (n : ℕ) → pos 0 <ℤ pos (suc n)
suc_positive n = omega (arith, ints)

-- the opposite of a negative number is positive
pub neg_positive : {a : ℤ} → a <ℤ pos 0 → pos 0 <ℤ neg_ℤ a
neg_positive h = omega (arith, linear, h)

-- twice a positive number is positive
pub twice_positive : {a : ℤ} → pos 0 <ℤ a → pos 0 <ℤ (pos 2 *ℤ a)
twice_positive h = omega (arith, linear, h)

-- a number whose square is 0 is 0
pub square_zero : (a : ℤ) → a *ℤ a ≡ pos 0 → a ≡ pos 0
square_zero a e = ⊎_elim (λ z. z) (λ z. z) (zero_product e)

-- a number and its opposite have one size
pub unsigned_abs-neg : (z : ℤ) → unsigned_abs (neg_ℤ z) ≡ unsigned_abs z
unsigned_abs-neg (pos zero) = refl
unsigned_abs-neg (pos (suc n)) = refl
unsigned_abs-neg (negsuc n) = refl

-- the greatest of three numbers, from either side
pub max_assoc : (m n r : ℕ) → max (max m n) r ≡ max m (max n r)
max_assoc m n r =
    let all = max m (max n r) in
    let each = max (max m n) r in
    let m_all = le-max_left m (max n r) in
    let nr_all = le-max_right m (max n r) in
    let n_all : n ≤ all = omega (arith, le-max_left n r, nr_all) in
    let r_all : r ≤ all = omega (arith, le-max_right n r, nr_all) in
    let mn_each = le-max_left (max m n) r in
    let r_each = le-max_right (max m n) r in
    let m_each : m ≤ each = omega (arith, le-max_left m n, mn_each) in
    let n_each : n ≤ each = omega (arith, le-max_right m n, mn_each) in
    let low : each ≤ all = max-le (max-le m_all n_all) r_all in
    let high : all ≤ each = max-le m_each (max-le n_each r_each) in
    omega (arith, low, high)

-- a number below 0 is at most 0
pub negative_at_most : {x : ℤ} → x <ℤ pos 0 → x ≤ℤ pos 0
negative_at_most e = omega (arith, linear)

-- 0 is at most 0
pub zero_at_most : {x : ℤ} → x ≡ pos 0 → x ≤ℤ pos 0
zero_at_most e = omega (arith, linear)

-- the product of two opposites
pub neg-neg : (a b : ℤ) → neg_ℤ a *ℤ neg_ℤ b ≡ a *ℤ b
neg-neg a b = solve 2 (λ a b. neg a ⊗ neg b ≈ a ⊗ b) cancels a b

-- numbers of which the test answers true are in order
pub nat_lt_out : (j i : ℕ) → nat_lt j i ≡ true → j < i
nat_lt_out j i e = grind arith

-- the test answers true of numbers in order
pub nat_lt_in : (j i : ℕ) → j < i → nat_lt j i ≡ true
nat_lt_in j i l = grind arith
