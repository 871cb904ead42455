-- Points of a box: its own reference point and that of its right half, and with two points each
-- point between them.
use Rattle.std.proofs.Common.{◌≡◌, lit<, arith, ℕ, zero, suc, pred, ◌^◌, ◌<◌, ◌≤◌, ℤ, pos, ◌+ℤ◌, ◌*ℤ◌, ◌<ℤ◌, ◌≤ℤ◌}
use borrow.Author.Differences.{ints}
use Rattle.std.proofs.Math.Nat.{pow-succ'}
use Rattle.ember_algebra.specs.Vector.{Vector}
use Rattle.ember_algebra.proofs.Laws.{linear}
use Rattle.ember_algebra.proofs.Order.{nonneg_mul, mul_le}
use Rattle.ember_algebra.proofs.Ring.{◌⊕◌, ◌⊗◌, ◌≈◌, num, solve, cancels}
use Rattle.ember_model.specs.declared.point.Spot.{Spot}
use Rattle.ember_model.specs.declared.point.Axis.{Axis}
use Rattle.ember_model.specs.declared.point.Axis.TheVariants.{X, Y, Z}
use Rattle.ember_model.specs.declared.plane.Plane.{Plane}
use Rattle.ember_model.specs.Planes.{value_at}
use Rattle.ember_model.specs.Points.{offset_by}
use Rattle.ember_model.specs.Faces.{size, between}
use Rattle.ember_model.proofs.SignTests.{size_nonnegative}
use Rattle.ember_law.proofs.Separation.{combination}
use Rattle.ember_box.specs.declared.aabb.Interval.{Interval}
use Rattle.ember_box.specs.Boxes.{Cell, low, high, right_half}
use Rattle.ember_box.specs.Near.{spot_of_vector}
use Rattle.ember_box.specs.Aabbs.{interval_between, aabb_of_cell}
use Rattle.ember_box.specs.Reference.{reference_beside, reference}
use Rattle.ember_box.proofs.NearByAabbs.{halves_end}
use Rattle.ember_ref.specs.ClosedBoxes.{IsAcross, HasPoint}

-- ---- reference points
across_from : (l lo hi w e : ℤ) → lo ≤ℤ l → (l +ℤ pos 1) ≤ℤ hi → pos 0 ≤ℤ w → pos 0 ≤ℤ e → e ≤ℤ w → IsAcross (interval_between lo hi) (w *ℤ l +ℤ e) (w *ℤ pos 1)
across_from l lo hi w e a b pw pe le =
    let x = mul_le pw a in let y = mul_le pw b in
    let one : w *ℤ pos 1 ≡ w = solve 1 (λ w. w ⊗ num (pos 1) ≈ w) cancels w in
    let u = solve 2 (λ l w. l ⊗ (w ⊗ num (pos 1)) ≈ w ⊗ l) cancels lo w in let v = solve 2 (λ l w. l ⊗ (w ⊗ num (pos 1)) ≈ w ⊗ l) cancels hi w in
    let s = solve 2 (λ w l. w ⊗ (l ⊕ num (pos 1)) ≈ w ⊗ l ⊕ w) cancels w l in
    record { from = omega (arith, linear, x, u, pe); to = omega (arith, linear, y, v, s, le) }

record Powers (m : ℤ) : Type 0 where
  whole : pos 0 ≤ℤ (m *ℤ m *ℤ m)
  square : pos 0 ≤ℤ (m *ℤ m)
  square_below : (m *ℤ m) ≤ℤ (m *ℤ m *ℤ m)
  below : m ≤ℤ (m *ℤ m *ℤ m)
  one_below : pos 1 ≤ℤ (m *ℤ m *ℤ m)

powers : (m : ℤ) → pos 1 ≤ℤ m → Powers m
powers m l =
    let z : pos 0 ≤ℤ m = omega (arith, linear) in
    let sq = nonneg_mul z z in let a = mul_le z l in let b = mul_le sq l in
    let one : m *ℤ pos 1 ≡ m = solve 1 (λ w. w ⊗ num (pos 1) ≈ w) cancels m in
    let two : m *ℤ m *ℤ pos 1 ≡ m *ℤ m = solve 1 (λ w. w ⊗ w ⊗ num (pos 1) ≈ w ⊗ w) cancels m in
    record {
      whole = omega (arith, linear, sq, b, two);
      square = sq;
      square_below = omega (arith, linear, b, two);
      below = omega (arith, linear, a, b, one, two);
      one_below = omega (arith, linear, a, b, one, two, l);
    }

-- the box contains the unit box with this least corner
record HasUnit (c : Cell) (v : Vector) : Type 0 where
  from_x : low c X ≤ℤ v.x
  from_y : low c Y ≤ℤ v.y
  from_z : low c Z ≤ℤ v.z
  to_x : (v.x +ℤ pos 1) ≤ℤ high c X
  to_y : (v.y +ℤ pos 1) ≤ℤ high c Y
  to_z : (v.z +ℤ pos 1) ≤ℤ high c Z

has_shifted : (m : ℤ) (c : Cell) (v : Vector) → pos 1 ≤ℤ m → HasUnit c v → HasPoint c (offset_by (spot_of_vector v) m)
has_shifted m c v l u =
    let p = powers m l in let w = m *ℤ m *ℤ m in
    record {
      weight = omega (arith, linear, p.one_below, solve 1 (λ w. w ⊗ num (pos 1) ≈ w) cancels w);
      on_x = across_from v.x (low c X) (high c X) w (m *ℤ m) u.from_x u.to_x p.whole p.square p.square_below;
      on_y = across_from v.y (low c Y) (high c Y) w m u.from_y u.to_y p.whole (omega (arith, linear)) p.below;
      on_z = across_from v.z (low c Z) (high c Z) w (pos 1) u.from_z u.to_z p.whole (omega (arith, linear)) p.one_below;
    }

side_positive : (n : ℕ) → pos 1 ≤ℤ pos (2 ^ n)
side_positive n = omega (arith, ints, above n)
  where
    above : (n : ℕ) → 1 ≤ 2 ^ n
    above zero = omega arith
    above (suc n) = let r = above n in let e = pow-succ' 2 n in omega (arith, r, e)

own_unit : (c : Cell) → HasUnit c c.lo
own_unit c =
    let x = side_positive (c.log X) in let y = side_positive (c.log Y) in let z = side_positive (c.log Z) in
    record {
      from_x = omega (arith, linear);
      from_y = omega (arith, linear);
      from_z = omega (arith, linear);
      to_x =
          omega (arith, linear, x);
      to_y = omega (arith, linear, y);
      to_z = omega (arith, linear, z);
    }

half_unit : (c : Cell) (k : Axis) → 0 < c.log k → HasUnit c (right_half c k).lo
half_unit c X l =
    let u = own_unit c in let h = side_positive (pred (c.log X)) in let e = halves_end c.lo.x (c.log X) l in
    record { from_x = omega (arith, linear, h); from_y = u.from_y; from_z = u.from_z; to_x = omega (arith, linear, h, e); to_y = u.to_y; to_z = u.to_z }
half_unit c Y l =
    let u = own_unit c in let h = side_positive (pred (c.log Y)) in let e = halves_end c.lo.y (c.log Y) l in
    record { from_x = u.from_x; from_y = omega (arith, linear, h); from_z = u.from_z; to_x = u.to_x; to_y = omega (arith, linear, h, e); to_z = u.to_z }
half_unit c Z l =
    let u = own_unit c in let h = side_positive (pred (c.log Z)) in let e = halves_end c.lo.z (c.log Z) l in
    record { from_x = u.from_x; from_y = u.from_y; from_z = omega (arith, linear, h); to_x = u.to_x; to_y = u.to_y; to_z = omega (arith, linear, h, e) }

-- a box in steps contains its reference point
pub has_beside : (f : ℕ) (c : Cell) → 0 < f → HasPoint c (reference_beside f c.lo)
has_beside f c above = has_shifted (pos f) c c.lo (omega (arith, ints, above)) (own_unit c)

-- a box in steps contains the reference point of its right half
pub has_half_beside : (f : ℕ) (c : Cell) (k : Axis) → 0 < f → 0 < c.log k → HasPoint c (reference_beside f (right_half c k).lo)
has_half_beside f c k above l = has_shifted (pos f) c (right_half c k).lo (omega (arith, ints, above)) (half_unit c k l)

-- on the narrow grid: its own
pub has_reference : (c : Cell) → HasPoint c (reference c)
has_reference c = has_beside (2 ^ 27) c (lit< tt)

-- ---- points between two of them
combined : (s : Interval) (k m x y v w : ℤ) → pos 0 ≤ℤ k → pos 0 ≤ℤ m → IsAcross s x v → IsAcross s y w → IsAcross s (k *ℤ x +ℤ m *ℤ y) (k *ℤ v +ℤ m *ℤ w)
combined s k m x y v w a b f g =
    let p = mul_le a f.from in let q = mul_le b g.from in let r = mul_le a f.to in let t = mul_le b g.to in
    let d = solve 5 (λ l k m v w. l ⊗ (k ⊗ v ⊕ m ⊗ w) ≈ k ⊗ (l ⊗ v) ⊕ m ⊗ (l ⊗ w)) cancels s.low k m v w in
    let e = solve 5 (λ l k m v w. l ⊗ (k ⊗ v ⊕ m ⊗ w) ≈ k ⊗ (l ⊗ v) ⊕ m ⊗ (l ⊗ w)) cancels s.high k m v w in
    record { from = omega (arith, linear, p, q, d); to = omega (arith, linear, r, t, e) }

-- a combination of two points of the closed box is a point of the box
pub has_combination : (c : Cell) (k m : ℤ) (p q : Spot) → HasPoint c p → HasPoint c q → pos 0 ≤ℤ k → pos 0 ≤ℤ m →
    pos 0 <ℤ (combination k m p q).w → HasPoint c (combination k m p q)
has_combination c k m p q f g a b w =
    record {
      weight = w;
      on_x = combined (aabb_of_cell c).x k m p.x q.x p.w q.w a b f.on_x g.on_x;
      on_y =
          combined (aabb_of_cell c).y k m p.y q.y p.w q.w a b f.on_y g.on_y;
      on_z =
          combined (aabb_of_cell c).z k m p.z q.z p.w q.w a b f.on_z g.on_z;
    }

-- so is the point at which the segment from one to the other meets a plane
pub has_between : (n : Plane) (c : Cell) (p q : Spot) → HasPoint c p → HasPoint c q → pos 0 <ℤ (between n p q).w → HasPoint c (between n p q)
has_between n c p q f g w =
    has_combination c (size (value_at n q)) (size (value_at n p)) p q f g (size_nonnegative (value_at n q)) (size_nonnegative (value_at n p)) w
