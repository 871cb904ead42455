-- Floors and remainders of fractions.
use Rattle.std.proofs.Common.{◌≡◌, ℤ, pos, neg_ℤ, ◌+ℤ◌, ◌-ℤ◌, ◌*ℤ◌, ◌<ℤ◌, ◌≤ℤ◌, arith}
use Rattle.std.specs.Int.{int_div_euclid}
use borrow.Author.Differences.{ints}
use Rattle.ember_algebra.proofs.Laws.{linear}
use Rattle.ember_algebra.proofs.Order.{mul_le}
use Rattle.ember_algebra.proofs.Ring.{◌⊕◌, ◌⊗◌, num, neg, ◌≈◌, solve, cancels}
use Rattle.ember_width.proofs.FloorValues.{floor_low, floor_high}
use Rattle.mesh_point.specs.SpacePoints.{IsFloor}

-- the floor, and what is left, are a floor and its remainder
pub floor_is : (x w : ℤ) → pos 0 <ℤ w → IsFloor (int_div_euclid x w) (x -ℤ int_div_euclid x w *ℤ w) x w
floor_is x w p =
    let q = int_div_euclid x w in let e = solve 2 (λ q w. q ⊗ w ≈ w ⊗ q) cancels q w in
    let low = floor_low x w p in let high = floor_high x w p in
    record {
      value = omega (arith, linear);
      rest = record { at_least = omega (arith, linear, e, low); below = omega (arith, linear, e, high) };
    }

module _ (x w : ℤ) (p : pos 0 <ℤ w) where
  -- a floor below 1 - 2^31
  pub floor_far_below : int_div_euclid x w <ℤ neg_ℤ (pos 2147483647) → x <ℤ neg_ℤ (pos 2147483647 *ℤ w)
  floor_far_below l =
      let q = int_div_euclid x w in let k : (q +ℤ pos 1) ≤ℤ neg_ℤ (pos 2147483647) = omega (arith, ints, l) in
      let m = mul_le {c = w} (omega (arith, ints, p)) k in let high = floor_high x w p in
      let e = solve 2 (λ w q. w ⊗ (q ⊕ num (pos 1)) ≈ w ⊗ q ⊕ w) cancels w q in
      let f = solve 2 (λ w h. w ⊗ neg h ≈ neg (h ⊗ w)) cancels w (pos 2147483647) in
      omega (arith, linear, m, e, f, high)

  -- one above 2^31 - 1
  pub floor_far_above : pos 2147483647 <ℤ int_div_euclid x w → (pos 2147483648 *ℤ w) ≤ℤ x
  floor_far_above l =
      let q = int_div_euclid x w in let k : pos 2147483648 ≤ℤ q = omega (arith, ints, l) in
      let m = mul_le {c = w} (omega (arith, ints, p)) k in let low = floor_low x w p in
      let e = solve 2 (λ w h. w ⊗ h ≈ h ⊗ w) cancels w (pos 2147483648) in
      omega (arith, linear, m, e, low)
