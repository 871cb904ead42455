-- Numbers above 0, and what an option holds.
use Rattle.std.proofs.Common.{◌≡◌, ◌<◌, arith, ℕ, Some, None, pos, ◌<ℤ◌}
use borrow.Author.Differences.{ints}

pub positive : {n : ℕ} → 0 < n → pos 0 <ℤ pos n
positive p = omega (arith, ints, p)

pub one_positive : pos 0 <ℤ pos 1
one_positive = omega (arith, ints)

pub none_is_some : {A : Type 0} {x : A} → None ≡ Some x → ⊥
none_is_some e = cc
