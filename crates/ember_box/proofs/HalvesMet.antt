-- What meets a box meets a half of it if it reaches the middle.
use Rattle.std.proofs.Common.{◌≡◌, refl, sym, ap, ◌∙◌, arith, ◌<◌, Bool, true, false, ◌&&◌, ℤ, ◌≤ℤ◌, int_le}
use borrow.Author.Differences.{ints}
use Rattle.ember_algebra.proofs.Numbers.{int_le_in, int_le_out}
use Rattle.ember_model.specs.declared.point.Axis.{Axis}
use Rattle.ember_model.specs.declared.point.Axis.TheVariants.{X, Y, Z}
use Rattle.ember_box.specs.declared.aabb.Interval.{Interval}
use Rattle.ember_box.specs.declared.aabb.Aabb.{Aabb}
use Rattle.ember_box.specs.Boxes.{Cell, low, high, left_half, right_half}
use Rattle.ember_box.specs.Aabbs.{interval_between, interval_along, aabb_of_cell, intervals_meet, aabbs_meet}
use Rattle.ember_box.proofs.Orders.{and_assoc}
use Rattle.ember_box.proofs.NearByAabbs.{halves_end}

-- ---- one axis
third_tells_first : (p q r : Bool) → (r ≡ true → p ≡ true) → p && q && r ≡ r && q
third_tells_first true true true f = refl
third_tells_first true true false f = refl
third_tells_first true false true f = refl
third_tells_first true false false f = refl
third_tells_first false q true f = absurd (let e : false ≡ true = f refl in cc)
third_tells_first false q false f = refl

third_tells_second : (p q r : Bool) → (r ≡ true → q ≡ true) → p && q && r ≡ p && r
third_tells_second false q r f = refl
third_tells_second true true r f = refl
third_tells_second true false true f = absurd (let e : false ≡ true = f refl in cc)
third_tells_second true false false f = refl

lower_part : (a w : Interval) (m : ℤ) → m ≤ℤ w.high → intervals_meet a w && int_le a.low m ≡ intervals_meet a (interval_between w.low m)
lower_part a w m h =
    third_tells_first (int_le a.low w.high) (int_le w.low a.high) (int_le a.low m) (λ e. int_le_in a.low w.high (omega (arith, ints, h, int_le_out a.low m e)))

upper_part : (a w : Interval) (m : ℤ) → w.low ≤ℤ m → intervals_meet a w && int_le m a.high ≡ intervals_meet a (interval_between m w.high)
upper_part a w m h =
    third_tells_second (int_le a.low w.high) (int_le w.low a.high) (int_le m a.high)
    (λ e. int_le_in w.low a.high (omega (arith, ints, h, int_le_out m a.high e)))

-- ---- a fourth test beside that of one axis
beside_x : (x y z t : Bool) → x && y && z && t ≡ x && t && y && z
beside_x false y z t = refl
beside_x true true true true = refl
beside_x true true true false = refl
beside_x true true false true = refl
beside_x true true false false = refl
beside_x true false z true = refl
beside_x true false z false = refl

beside_y : (x y z t : Bool) → x && y && z && t ≡ x && (y && t) && z
beside_y false y z t = refl
beside_y true false z t = refl
beside_y true true true true = refl
beside_y true true true false = refl
beside_y true true false true = refl
beside_y true true false false = refl

-- ---- a box
-- a bounding box meets the left half exactly if it meets the box and reaches the middle from below
pub left_meets : (c : Cell) (k : Axis) (a : Aabb) → 0 < c.log k →
    aabbs_meet a (aabb_of_cell c) && int_le (interval_along a k).low (low (right_half c k) k) ≡ aabbs_meet a
    (aabb_of_cell (left_half c k))
left_meets c X a p =
    let b = aabb_of_cell c in let m = low (right_half c X) X in let e = halves_end (low c X) (c.log X) p in
    let h : m ≤ℤ high c X = omega (arith, ints, e) in
    beside_x (intervals_meet a.x b.x) (intervals_meet a.y b.y) (intervals_meet a.z b.z) (int_le a.x.low m)
    ∙ (λ i. lower_part a.x b.x m h i && intervals_meet a.y b.y && intervals_meet a.z b.z)
left_meets c Y a p =
    let b = aabb_of_cell c in let m = low (right_half c Y) Y in let e = halves_end (low c Y) (c.log Y) p in
    let h : m ≤ℤ high c Y = omega (arith, ints, e) in
    beside_y (intervals_meet a.x b.x) (intervals_meet a.y b.y) (intervals_meet a.z b.z) (int_le a.y.low m)
    ∙ (λ i. intervals_meet a.x b.x && lower_part a.y b.y m h i && intervals_meet a.z b.z)
left_meets c Z a p =
    let b = aabb_of_cell c in let m = low (right_half c Z) Z in let e = halves_end (low c Z) (c.log Z) p in
    let h : m ≤ℤ high c Z = omega (arith, ints, e) in
    and_assoc (intervals_meet a.x b.x && intervals_meet a.y b.y) (intervals_meet a.z b.z) (int_le a.z.low m)
    ∙ (λ i. intervals_meet a.x b.x && intervals_meet a.y b.y && lower_part a.z b.z m h i)

-- a bounding box meets the right half if it meets the box and reaches the half
pub right_meets : (c : Cell) (k : Axis) (a : Aabb) → 0 < c.log k →
    aabbs_meet a (aabb_of_cell c) && int_le (low (right_half c k) k) (interval_along a k).high ≡ aabbs_meet a
    (aabb_of_cell (right_half c k))
right_meets c X a p =
    let b = aabb_of_cell c in let m = low (right_half c X) X in let e = halves_end (low c X) (c.log X) p in
    let h : low c X ≤ℤ m = omega (arith, ints) in
    let part = upper_part a.x b.x m h ∙ ap (λ (n : ℤ). intervals_meet a.x (interval_between m n)) (sym e) in
    beside_x (intervals_meet a.x b.x) (intervals_meet a.y b.y) (intervals_meet a.z b.z) (int_le m a.x.high)
    ∙ (λ i. part i && intervals_meet a.y b.y && intervals_meet a.z b.z)
right_meets c Y a p =
    let b = aabb_of_cell c in let m = low (right_half c Y) Y in let e = halves_end (low c Y) (c.log Y) p in
    let h : low c Y ≤ℤ m = omega (arith, ints) in
    let part = upper_part a.y b.y m h ∙ ap (λ (n : ℤ). intervals_meet a.y (interval_between m n)) (sym e) in
    beside_y (intervals_meet a.x b.x) (intervals_meet a.y b.y) (intervals_meet a.z b.z) (int_le m a.y.high)
    ∙ (λ i. intervals_meet a.x b.x && part i && intervals_meet a.z b.z)
right_meets c Z a p =
    let b = aabb_of_cell c in let m = low (right_half c Z) Z in let e = halves_end (low c Z) (c.log Z) p in
    let h : low c Z ≤ℤ m = omega (arith, ints) in
    let part = upper_part a.z b.z m h ∙ ap (λ (n : ℤ). intervals_meet a.z (interval_between m n)) (sym e) in
    and_assoc (intervals_meet a.x b.x && intervals_meet a.y b.y) (intervals_meet a.z b.z) (int_le m a.z.high)
    ∙ (λ i. intervals_meet a.x b.x && intervals_meet a.y b.y && part i)
