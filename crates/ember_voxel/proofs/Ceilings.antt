-- Which cells have their least corner in a box.
use Rattle.std.proofs.Common.{◌≡◌, ℕ, ◌+◌, ◌-◌, ◌*◌, ◌/◌, ◌^◌, ◌<◌, ◌≤◌, Bool, true, false, nat_le, nat_lt, int_le}
use Rattle.std.proofs.Common.{int_lt, ℤ, pos, ◌+ℤ◌, ◌-ℤ◌, pow-add, refl, sym, ap, ◌∙◌, arith}
use Rattle.std.proofs.lemmas.Bool.{lt-ltb, ltb-true, ltb-false, le-leb, lt-leb, leb-true}
use Rattle.std.proofs.lemmas.Nat.{le-div}
use Rattle.std.proofs.lemmas.Int.{ints}
use Rattle.std.proofs.Math.Nat.{mul-le-mul_right, div-mul-le_self, pow-le-pow_right}
use Rattle.ember_algebra.proofs.Booleans.{same_test}
use Rattle.ember_algebra.proofs.Numbers.{int_le_in, int_le_out}
use Rattle.ember_box.proofs.HalfCells.{times_one_more}

module _ (d : ℕ) (some : 0 < d) (x : ℕ) where
  abbrev rounded : ℕ
  rounded = (x + (d - 1)) / d

  -- i is below the rounded quotient exactly if i d is below x
  pub below_rounded : (i : ℕ) → nat_lt i rounded ≡ nat_lt (i * d) x
  below_rounded i = same_test (nat_lt i rounded) (nat_lt (i * d) x) forth back where
    forth : nat_lt i rounded ≡ true → nat_lt (i * d) x ≡ true
    forth e =
        let l : i + 1 ≤ rounded = omega (arith, ltb-true i rounded e) in
        let h : (i + 1) * d ≤ rounded * d = mul-le-mul_right d l in
        lt-ltb (i * d) x (omega (arith, h, times_one_more i d, div-mul-le_self (x + (d - 1)) d, some))

    back : nat_lt (i * d) x ≡ true → nat_lt i rounded ≡ true
    back e =
        let h : i + 1 ≤ rounded = le-div (i + 1) (x + (d - 1)) d some (omega (arith, ltb-true (i * d) x e, times_one_more i d, some)) in
        lt-ltb i rounded (omega (arith, h))

  -- and at or above it exactly if i d is at or above x
  pub from_rounded : (i : ℕ) → nat_le rounded i ≡ nat_le x (i * d)
  from_rounded i = by (nat_lt i rounded) refl where
    by : (b : Bool) → nat_lt i rounded ≡ b → nat_le rounded i ≡ nat_le x (i * d)
    by true e = lt-leb rounded i (ltb-true i rounded e) ∙ sym (lt-leb x (i * d) (ltb-true (i * d) x (sym (below_rounded i) ∙ e)))
    by false e = le-leb rounded i (ltb-false i rounded e) ∙ sym (le-leb x (i * d) (ltb-false (i * d) x (sym (below_rounded i) ∙ e)))

  -- the rounded quotient is at most m if x is at most m d
  pub rounded_within : (m : ℕ) → x ≤ m * d → rounded ≤ m
  rounded_within m le = leb-true rounded m (from_rounded m ∙ le-leb x (m * d) le)

-- along an axis there are at most 4096 cells
pub few_cells : (size : ℕ) → 2 ^ (12 - size) ≤ 4096
few_cells size = pow-le-pow_right (omega arith) (let e : 12 - size ≤ 12 = omega arith in e)

-- along an axis: x and y are where the box box_begins_at and box_ends_at, counted from the root's corner
pub box_begins_at : (low : ℤ) (x n : ℕ) → pos x ≡ low +ℤ pos 2048 → nat_le x n ≡ int_le low (pos n -ℤ pos 2048)
box_begins_at low x n e = same_test (nat_le x n) (int_le low (pos n -ℤ pos 2048))
    (λ p. int_le_in low (pos n -ℤ pos 2048) (omega (arith, ints, e, leb-true x n p)))
    (λ p. le-leb x n (omega (arith, ints, e, int_le_out low (pos n -ℤ pos 2048) p)))

pub box_ends_at : (low side : ℤ) (y n : ℕ) → pos y ≡ low +ℤ side +ℤ pos 2048 → nat_lt n y ≡ int_lt (pos n -ℤ pos 2048) (low +ℤ side)
box_ends_at low side y n e = grind (arith, ints)

-- all cells along an axis make up the root's side
pub all_cells : (size : ℕ) → size ≤ 12 → 2 ^ (12 - size) * 2 ^ size ≡ 4096
all_cells size le = sym (pow-add 2 (12 - size) size) ∙ ap (λ k. 2 ^ k) (let e : 12 - size + size ≡ 12 = omega (arith, le) in e)

-- a place further on has no fewer cells before it
pub in_order : (d x y r t : ℕ) → x ≤ y → ((i : ℕ) → nat_le r i ≡ nat_le x (i * d)) → ((i : ℕ) → nat_le t i ≡ nat_le y (i * d)) → r ≤ t
in_order d x y r t le f g =
    let h : y ≤ t * d = leb-true y (t * d) (sym (g t) ∙ le-leb t t (omega arith)) in
    leb-true r t (f t ∙ le-leb x (t * d) (omega (arith, h, le)))

pub further : (low : ℤ) (x s side : ℕ) → pos x ≡ low +ℤ pos 2048 → s ≡ side → pos (x + s) ≡ low +ℤ pos side +ℤ pos 2048
further low x s side e f = omega (arith, ints, e, f)
