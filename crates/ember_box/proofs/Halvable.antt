-- A box that isn't a leaf can be halved along its halving axis.
use Rattle.std.proofs.Common.{◌≡◌, ℕ, ◌*◌, ◌<◌, refl, arith, Bool, true, false, not, ◌&&◌, ◌||◌, if◌then◌else◌, nat_lt, nat_le, List, length}
use Rattle.ember_model.specs.declared.tri.Tri.{Tri}
use Rattle.ember_model.specs.declared.point.Axis.{Axis}
use Rattle.ember_model.specs.declared.point.Axis.TheVariants.{X, Y, Z}
use Rattle.ember_box.specs.Boxes.{Cell, in_steps}
use Rattle.ember_box.specs.Near.{near}
use Rattle.ember_box.specs.Halving.{half_sum, halving_axis_on, is_leaf_on}
use Rattle.ember_box.proofs.Lists.{positive}

not_zero : (n : ℕ) → 0 < n → nat_lt 0 n ≡ false → ⊥
not_zero n p e = grind arith

-- whichever axis is chosen can be halved, if one can: p, q and r compare the sums
chosen : (P : Axis → Type 0) (x y z p q r : Bool) → (x ≡ true → P X) → (y ≡ true → P Y) → (z ≡ true → P Z) →
    (x ≡ false → y ≡ false → z ≡ false → ⊥) → P (if (not y || (x && p))
    && (not z || (x && q)) then X else (if not z || (y && r) then Y else Z))
chosen P false false false p q r f g h n = absurd (n refl refl refl)
chosen P false false true p q r f g h n = h refl
chosen P false true false p q r f g h n = g refl
chosen P false true true p q true f g h n = g refl
chosen P false true true p q false f g h n = h refl
chosen P true false false p q r f g h n = f refl
chosen P true false true p true r f g h n = f refl
chosen P true false true p false r f g h n = h refl
chosen P true true false true q r f g h n = f refl
chosen P true true false false q r f g h n = g refl
chosen P true true true true true r f g h n = f refl
chosen P true true true true false true f g h n = g refl
chosen P true true true true false false f g h n = h refl
chosen P true true true false q true f g h n = g refl
chosen P true true true false q false f g h n = h refl

halvable : (u : ℕ) (ts : List Tri) (c : Cell) → (nat_lt 0 (c.log X) ≡ false → nat_lt 0 (c.log Y) ≡ false →
    nat_lt 0 (c.log Z) ≡ false → ⊥) → 0 < c.log (halving_axis_on u ts c)
unfolding halving_axis_on
halvable u ts c none =
    chosen (λ k. 0 < c.log k) (nat_lt 0 (c.log X)) (nat_lt 0 (c.log Y)) (nat_lt 0 (c.log Z))
    (nat_le (half_sum ts (in_steps u c) X) (half_sum ts (in_steps u c) Y)) (nat_le (half_sum ts (in_steps u c) X) (half_sum ts (in_steps u c) Z))
    (nat_le (half_sum ts (in_steps u c) Y) (half_sum ts (in_steps u c) Z)) (positive (c.log X)) (positive (c.log Y)) (positive (c.log Z)) none

-- where some side is above 1
pub halvable_along : (u : ℕ) (ts : List Tri) (c : Cell) (k : Axis) → 0 < c.log k → 0 < c.log (halving_axis_on u ts c)
halvable_along u ts c X p = halvable u ts c (λ x y z. not_zero (c.log X) p x)
halvable_along u ts c Y p = halvable u ts c (λ x y z. not_zero (c.log Y) p y)
halvable_along u ts c Z p = halvable u ts c (λ x y z. not_zero (c.log Z) p z)

-- where the box isn't a leaf
pub halvable_unless_leaf : (u : ℕ) (ts : List Tri) (c : Cell) → is_leaf_on u ts c ≡ false → 0 < c.log (halving_axis_on u ts c)
unfolding is_leaf_on
halvable_unless_leaf u ts c e =
    halvable u ts c (λ x y z. clash (nat_le (length (near ts (in_steps u c))) 16)
    (nat_le (7 * length (near ts (in_steps u c))) (4 * half_sum ts (in_steps u c) X)) (nat_le (7 * length (near ts (in_steps u c))) (4 * half_sum ts (in_steps u c) Y))
    (nat_le (7 * length (near ts (in_steps u c))) (4 * half_sum ts (in_steps u c) Z)) (nat_lt 0 (c.log X)) (nat_lt 0 (c.log Y))
    (nat_lt 0 (c.log Z)) x y z e)
  where
    always : (few : Bool) → (few || true) ≡ false → ⊥
    always true e = cc
    always false e = cc

    clash : (few a b d x y z : Bool) → x ≡ false → y ≡ false → z ≡ false → (few || (not x || a) && (not y || b) && (not z || d)) ≡ false → ⊥
    clash few a b d true y z p q r e = cc
    clash few a b d false true z p q r e = cc
    clash few a b d false false true p q r e = cc
    clash few a b d false false false p q r e = always few e
