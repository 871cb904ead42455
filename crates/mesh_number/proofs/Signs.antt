-- How far numbers with signs are apart.
use Rattle.std.proofs.Common.{◌≡◌, ℕ, zero, suc, ◌+◌, ◌*◌, Bool, true, false, pos, ◌-ℤ◌, ◌*ℤ◌, refl, arith}
use Rattle.std.specs.Prelude.{not}
use borrow.Author.Differences.{ints}
use Rattle.std.specs.Int.RustNames.{unsigned_abs}
use Rattle.mesh_number.specs.Number.Fractions.{signed_whole}
use Rattle.mesh_number.proofs.Distances.{gap}

-- a size with a sign, times a size
signed_times : (minus : Bool) (m n : ℕ) → signed_whole minus m *ℤ pos n ≡ signed_whole minus (m * n)
signed_times false m n = omega (arith, ints)
signed_times true zero n = let none : 0 * n ≡ 0 = omega arith in rw none refl
signed_times true (suc m) zero = let none : suc m * 0 ≡ 0 = omega arith in rw none refl
signed_times true (suc m) (suc n) = refl

same_signs : (minus : Bool) (a b : ℕ) → unsigned_abs (signed_whole minus a -ℤ signed_whole minus b) ≡ gap a b
unfolding gap
same_signs false a b = omega (arith, ints)
same_signs true a b = omega (arith, ints)

other_signs : (minus : Bool) (a b : ℕ) → unsigned_abs (signed_whole minus a -ℤ signed_whole (not minus) b) ≡ a + b
other_signs false a b = omega (arith, ints)
other_signs true a b = omega (arith, ints)

-- numbers of one sign
pub distance_same : (minus : Bool) (n d v s : ℕ) → unsigned_abs (signed_whole minus n *ℤ pos s -ℤ signed_whole minus v *ℤ pos d) ≡ gap (n * s) (v * d)
distance_same minus n d v s = rw (signed_times minus n s, signed_times minus v d) (same_signs minus (n * s) (v * d))

-- and of two
pub distance_other : (minus : Bool) (n d v s : ℕ) → unsigned_abs (signed_whole minus n *ℤ pos s -ℤ signed_whole (not minus) v *ℤ pos d) ≡ n * s + v * d
distance_other minus n d v s = rw (signed_times minus n s, signed_times (not minus) v d) (other_signs minus (n * s) (v * d))
