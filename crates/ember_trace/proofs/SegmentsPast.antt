-- A segment that lies past the bounding box of a triangle along an axis doesn't cross its face.
use Rattle.std.proofs.Common.{◌≡◌, add-mul, refl, sym, ap, ◌∙◌, arith, ◌⊎◌, inl, inr, ◌<◌, ◌≤◌, ◌*◌, ◌/◌, ℕ, zero, suc, ◌+◌, Bool, true}
use Rattle.std.proofs.Common.{false, ◌&&◌, cond, ℤ, pos, negsuc, ◌+ℤ◌, ◌-ℤ◌, ◌*ℤ◌, ◌<ℤ◌, ◌≤ℤ◌, int_le, int_lt}
use Rattle.std.specs.Int.{int_min, int_max, int_div_euclid}
use Rattle.std.proofs.lemmas.Int.{clamps}
use Rattle.std.proofs.Math.Nat.{div-mul-le_self, mod-lt}
use Rattle.std.proofs.lemmas.Nat.{div-add-mod'}
use borrow.Author.Differences.{ints}
use lib.IntN.{*ℤ_comm}
use Rattle.ember_algebra.specs.Size.{Small}
use Rattle.ember_algebra.specs.Sign.{is_negative}
use Rattle.ember_algebra.proofs.Laws.{linear}
use Rattle.ember_algebra.proofs.Order.{mul_le, mul_pos_neg}
use Rattle.ember_algebra.proofs.Ring.{◌⊕◌, ◌⊖◌, ◌⊗◌, ◌≈◌, num, solve, cancels}
use Rattle.ember_algebra.proofs.Size.{small_within, small_mul}
use Rattle.ember_model.specs.declared.point.Spot.{Spot}
use Rattle.ember_model.specs.declared.point.Axis.{Axis}
use Rattle.ember_model.specs.declared.point.Axis.TheVariants.{X, Y, Z}
use Rattle.ember_model.specs.declared.plane.Plane.{Plane}
use Rattle.ember_model.specs.declared.tri.Tri.{Tri}
use Rattle.ember_model.specs.declared.point.Corner.{Corner}
use Rattle.ember_model.specs.Planes.{vector_of, value_at, along}
use Rattle.ember_model.specs.Within.{IsTriWithin, IsSupportWithin, normal_limit}
use Rattle.ember_model.specs.Faces.{is_flat, face_of, between, leg}
use Rattle.ember_model.specs.Owners.{spot_of_corner}
use Rattle.ember_model.specs.ClearTest.{all_negative}
use Rattle.ember_model.proofs.SignTests.{size_positive}
use Rattle.ember_model.proofs.Legs.{leg_off, leg_on, ends_nonzero, between_inside, value_between}
use Rattle.ember_model.proofs.Hits.{inside_closed}
use Rattle.ember_law.proofs.CornerSides.{above_corners}
use Rattle.ember_law.proofs.FlatTriangles.{flat_case, flat_out, flat_leg}
use Rattle.ember_box.specs.declared.aabb.Interval.{Interval}
use Rattle.ember_box.specs.Boxes.{entry_along as along_vector}
use Rattle.ember_box.specs.Aabbs.{interval_along, interval_over, aabb_of_tri}
use Rattle.ember_ref.proofs.NearPoints.{coordinate as along_point}
use Rattle.ember_trace.specs.Lines.{contains_above}
use Rattle.ember_trace.specs.Crossings.{may_contain}
use Rattle.ember_trace.proofs.PathVertices.{with_along, value_with}

-- ---- a plane on whose front a triangle lies
pub record LiesBefore (g : Plane) (t : Tri) : Type 0 where
  pub a : pos 0 ≤ℤ value_at g (spot_of_corner t.a)
  pub b : pos 0 ≤ℤ value_at g (spot_of_corner t.b)
  pub c : pos 0 ≤ℤ value_at g (spot_of_corner t.c)

-- a segment behind it doesn't cross the triangle
pub leg_behind : (t : Tri) (g : Plane) (p q : Spot) → LiesBefore g t → pos 0 <ℤ p.w → pos 0 <ℤ q.w →
    value_at g p <ℤ pos 0 → value_at g q <ℤ pos 0 → leg (face_of t) p q ≡ pos 0
leg_behind t g p q l wp wq gp gq = by (flat_case t)
  where
    crossed : is_flat t ≡ false → (b : Bool) → is_negative (value_at (face_of t).support p *ℤ value_at (face_of t).support q) ≡ b → leg (face_of t) p q ≡ pos 0
    crossed nf false e = leg_off (face_of t) p q e
    crossed nf true e = inside (all_negative (face_of t).edges (between (face_of t).support p q)) refl
      where
        inside : (b : Bool) → all_negative (face_of t).edges (between (face_of t).support p q) ≡ b → leg (face_of t) p q ≡ pos 0
        inside false h = leg_on (face_of t) p q false _ wp wq e h refl
        inside true h =
            let n = (face_of t).support in let x = between n p q in
            let z = above_corners t g x nf l.a l.b l.c (inside_closed (face_of t) x (between_inside (face_of t) p q wp wq e ∙ h)) in
            let nz = ends_nonzero (value_at n p) (value_at n q) e in
            let u = mul_pos_neg (size_positive (value_at n q) nz.1) gp in let v = mul_pos_neg (size_positive (value_at n p) nz.0) gq in
            let f = value_between g n p q in absurd (omega (arith, linear, z, u, v, f))

    by : (is_flat t ≡ true) ⊎ (is_flat t ≡ false) → leg (face_of t) p q ≡ pos 0
    by (inl e) = flat_leg p q t (flat_out t e)
    by (inr e) = crossed e (is_negative (value_at (face_of t).support p *ℤ value_at (face_of t).support q)) refl

-- ---- planes across an axis
-- grows along the axis by s, and is 0 at the coordinate d
abbrev pub across : Axis → ℤ → ℤ → Plane
across X s d = record { a = s; b = pos 0; c = pos 0; d = s *ℤ d }
across Y s d = record { a = pos 0; b = s; c = pos 0; d = s *ℤ d }
across Z s d = record { a = pos 0; b = pos 0; c = s; d = s *ℤ d }

-- the value of a plane across an axis, by the coordinate along it
pub value_across : (k : Axis) (s d : ℤ) (v : Spot) → value_at (across k s d) v ≡ s *ℤ (along_point k v -ℤ d *ℤ v.w)
value_across X s d v = solve 6 (λ s d x y z w. s ⊗ x ⊕ num (pos 0) ⊗ y ⊕ num (pos 0) ⊗ z ⊖ s ⊗ d ⊗ w ≈ s ⊗ (x ⊖ d ⊗ w)) cancels s d v.x v.y v.z v.w
value_across Y s d v = solve 6 (λ s d x y z w. num (pos 0) ⊗ x ⊕ s ⊗ y ⊕ num (pos 0) ⊗ z ⊖ s ⊗ d ⊗ w ≈ s ⊗ (y ⊖ d ⊗ w)) cancels s d v.x v.y v.z v.w
value_across Z s d v = solve 6 (λ s d x y z w. num (pos 0) ⊗ x ⊕ num (pos 0) ⊗ y ⊕ s ⊗ z ⊖ s ⊗ d ⊗ w ≈ s ⊗ (z ⊖ d ⊗ w)) cancels s d v.x v.y v.z v.w

-- the entry along its axis of a plane's normal that has only this entry
pub across_along : (k : Axis) (s d : ℤ) → along (across k s d) k ≡ s
across_along X s d = refl
across_along Y s d = refl
across_along Z s d = refl

-- it looks at one coordinate alone
pub across_with : (k : Axis) (s d : ℤ) (u v : Spot) → value_at (across k s d) (with_along k u v) ≡ u.w *ℤ value_at (across k s d) v
across_with k s d u v =
    let by = u.w *ℤ along_point k v -ℤ v.w *ℤ along_point k u in
    value_with (across k s d) k u v ∙ (λ i. v.w *ℤ value_across k s d u i +ℤ by *ℤ across_along k s d i)
    ∙ solve 6 (λ s d x y v w. w ⊗ (s ⊗ (x ⊖ d ⊗ v)) ⊕ (v ⊗ y ⊖ w ⊗ x) ⊗ s ≈ v ⊗ (s ⊗ (y ⊖ d ⊗ w))) cancels s d
    (along_point k u) (along_point k v) u.w v.w ∙ ap (λ (z : ℤ). u.w *ℤ z) (sym (value_across k s d v))

-- 1 is at most the entry of a normal
one_entry : (m : ℕ) → 1 ≤ m → 1 ≤ normal_limit m
one_entry zero l = absurd (omega (arith, l))
one_entry (suc m) l = omega arith

-- a coordinate is at most the constant of a support plane
one_constant : (m : ℕ) → 1 * m ≤ 12 * (m * (m * m))
one_constant zero = omega arith
one_constant (suc m) = omega arith

-- a plane across an axis has the sizes of a support plane
pub across_within : (m : ℕ) (k : Axis) (s d : ℤ) → 1 ≤ m → Small 1 s → Small m d → IsSupportWithin m (across k s d)
across_within m k s d l i j = by k
  where
    one : Small (normal_limit m) s
    one = small_within (one_entry m l) i

    none : Small (normal_limit m) (pos 0)
    none = record { small = omega arith }

    rest : Small (12 * (m * (m * m))) (s *ℤ d)
    rest = small_within (one_constant m) (small_mul i j)

    by : (k : Axis) → IsSupportWithin m (across k s d)
    by X = record { a = one; b = none; c = none; d = rest }
    by Y = record { a = none; b = one; c = none; d = rest }
    by Z = record { a = none; b = none; c = one; d = rest }

-- ---- past the bounding box
-- the coordinate y / w lies strictly past the triangle along the axis, below it (s is 1) or above
-- it (s is -1)
pub record IsPast (m : ℕ) (t : Tri) (k : Axis) (y w : ℤ) : Type 0 where
  pub s : ℤ
  pub d : ℤ
  pub small_s : Small 1 s
  pub small_d : Small m d
  pub before : LiesBefore (across k s d) t
  pub past : (s *ℤ (y -ℤ d *ℤ w)) <ℤ pos 0

least_small : {m : ℕ} (a b : ℤ) → Small m a → Small m b → Small m (int_min a b)
least_small {m} a b i j = by (int_lt b a)
  where
    by : (t : Bool) → Small m (cond t b a)
    by true = j
    by false = i

pub greatest_small : {m : ℕ} (a b : ℤ) → Small m a → Small m b → Small m (int_max a b)
greatest_small {m} a b i j = by (int_lt b a)
  where
    by : (t : Bool) → Small m (cond t a b)
    by true = i
    by false = j

record IsOver (m : ℕ) (s : Interval) (a b c : ℤ) : Type 0 where
  low_a : s.low ≤ℤ a
  low_b : s.low ≤ℤ b
  low_c : s.low ≤ℤ c
  high_a : a ≤ℤ s.high
  high_b : b ≤ℤ s.high
  high_c : c ≤ℤ s.high
  small_low : Small m s.low
  small_high : Small m s.high

over : {m : ℕ} (a b c : ℤ) → Small m a → Small m b → Small m c → IsOver m (interval_over a b c) a b c
over a b c i j k =
    record {
      low_a = omega (arith, ints, clamps);
      low_b = omega (arith, ints, clamps);
      low_c =
          omega (arith, ints, clamps);
      high_a = omega (arith, ints, clamps);
      high_b = omega (arith, ints, clamps);
      high_c =
          omega (arith, ints, clamps);
      small_low = least_small (int_min a b) c (least_small a b i j) k;
      small_high =
          greatest_small (int_max a b) c (greatest_small a b i j) k;
    }

aabb : {m : ℕ} (t : Tri) (k : Axis) → IsTriWithin m t → IsOver m (interval_along (aabb_of_tri t) k) (along_vector k (vector_of t.a))
    (along_vector k (vector_of t.b)) (along_vector k (vector_of t.c))
aabb t X v = over t.a.x t.b.x t.c.x v.a.x v.b.x v.c.x
aabb t Y v = over t.a.y t.b.y t.c.y v.a.y v.b.y v.c.y
aabb t Z v = over t.a.z t.b.z t.c.z v.a.z v.b.z v.c.z

corner_is : (k : Axis) (u : Corner) → along_point k (spot_of_corner u) ≡ along_vector k (vector_of u)
corner_is X u = refl
corner_is Y u = refl
corner_is Z u = refl

-- the least coordinate of a triangle within m is at most m in size
pub low_small : {m : ℕ} (t : Tri) (k : Axis) → IsTriWithin m t → Small m (interval_along (aabb_of_tri t) k).low
low_small t k v = let o = aabb t k v in o.small_low

-- and so is the greatest one
pub high_small : {m : ℕ} (t : Tri) (k : Axis) → IsTriWithin m t → Small m (interval_along (aabb_of_tri t) k).high
high_small t k v = let o = aabb t k v in o.small_high

-- below it
from_low : (k : Axis) (l : ℤ) (u : Corner) → l ≤ℤ along_vector k (vector_of u) → pos 0 ≤ℤ value_at (across k (pos 1) l) (spot_of_corner u)
from_low k l u h =
    let e = value_across k (pos 1) l (spot_of_corner u) in let f = corner_is k u in omega (arith, linear, e, f, h)

from_high : (k : Axis) (l : ℤ) (u : Corner) → along_vector k (vector_of u) ≤ℤ l → pos 0 ≤ℤ value_at (across k (negsuc 0) l) (spot_of_corner u)
from_high k l u h =
    let e = value_across k (negsuc 0) l (spot_of_corner u) in let f = corner_is k u in omega (arith, linear, e, f, h)

-- the triangle lies above its bounding box's low end
pub above_low : {m : ℕ} (t : Tri) (k : Axis) → IsTriWithin m t → LiesBefore (across k (pos 1) (interval_along (aabb_of_tri t) k).low) t
above_low t k v =
    let o = aabb t k v in let l = (interval_along (aabb_of_tri t) k).low in
    record { a = from_low k l t.a o.low_a; b = from_low k l t.b o.low_b; c = from_low k l t.c o.low_c }

-- ---- the whole number at or below a fraction
above_quotient : (a b : ℕ) → 0 < b → a < (a / b + 1) * b
above_quotient a b l =
    let e = div-add-mod' a b in let r = mod-lt a {m = b} l in omega (arith, add-mul (a / b) 1 b)

floor_low : (y w : ℤ) → pos 0 <ℤ w → (int_div_euclid y w *ℤ w) ≤ℤ y
floor_low (pos a) (pos b) p = omega (arith, ints, div-mul-le_self a b)
floor_low (negsuc a) (pos b) p = omega (arith, ints, above_quotient a b (omega (arith, ints)))
floor_low y (negsuc b) p = absurd (omega (arith, ints))

floor_high : (y w : ℤ) → pos 0 <ℤ w → y <ℤ (int_div_euclid y w *ℤ w +ℤ w)
floor_high (pos a) (pos b) p = omega (arith, ints, above_quotient a b (omega (arith, ints)))
floor_high (negsuc a) (pos b) p = omega (arith, ints, div-mul-le_self a b)
floor_high y (negsuc b) p = absurd (omega (arith, ints))

-- a fraction is below a whole number that is above the fraction's floor
pub below_floor : (y w h : ℤ) → pos 0 <ℤ w → (int_div_euclid y w +ℤ pos 1) ≤ℤ h → y <ℤ (h *ℤ w)
below_floor y w h p l =
    let f = int_div_euclid y w in let z : pos 0 ≤ℤ w = omega (arith, linear, p) in
    let e = solve 2 (λ f w. w ⊗ (f ⊕ num (pos 1)) ≈ f ⊗ w ⊕ w) cancels f w in
    omega (arith, linear, floor_high y w p, mul_le z l, e, *ℤ_comm w h)

above_floor : (y w h : ℤ) → pos 0 <ℤ w → (h +ℤ pos 1) ≤ℤ int_div_euclid y w → (h *ℤ w) <ℤ y
above_floor y w h p l =
    let f = int_div_euclid y w in let z : pos 0 ≤ℤ w = omega (arith, linear, p) in
    let e = solve 2 (λ h w. w ⊗ (h ⊕ num (pos 1)) ≈ h ⊗ w ⊕ w) cancels h w in
    omega (arith, linear, floor_low y w p, mul_le z l, *ℤ_comm w f, e, p)

module _ {m : ℕ} (t : Tri) (k : Axis) (v : IsTriWithin m t) (y w : ℤ) where
  abbrev span : Interval
  span = interval_along (aabb_of_tri t) k

  past_low : (y -ℤ span.low *ℤ w) <ℤ pos 0 → IsPast m t k y w
  past_low l =
      let o = aabb t k v in
      record {
        s = pos 1;
        d = span.low;
        small_s = record { small = omega arith };
        small_d = o.small_low;
        before =
            record {
              a = from_low k span.low t.a o.low_a;
              b = from_low k span.low t.b o.low_b;
              c =
                  from_low k span.low t.c o.low_c;
            };
        past = omega (arith, linear, l);
      }

  past_high : pos 0 <ℤ (y -ℤ span.high *ℤ w) → IsPast m t k y w
  past_high l =
      let o = aabb t k v in
      record {
        s = negsuc 0;
        d = span.high;
        small_s = record { small = omega arith };
        small_d = o.small_high;
        before =
            record {
              a = from_high k span.high t.a o.high_a;
              b = from_high k span.high t.b o.high_b;
              c =
                  from_high k span.high t.c o.high_c;
            };
        past = omega (arith, linear, l);
      }

  by_tests : {P : Type 0} (l h : Bool) → (l ≡ false → P) → (h ≡ false → P) → l && h ≡ false → P
  by_tests true true f g e = absurd (clash e)
    where
      clash : true ≡ false → ⊥
      clash e = cc
  by_tests true false f g e = g refl
  by_tests false h f g e = f refl

  -- a little above a whole number
  pub past_above : (at : ℤ) → pos 0 <ℤ w → (at *ℤ w) <ℤ y → y <ℤ ((at +ℤ pos 1) *ℤ w) → contains_above span at ≡ false → IsPast m t k y w
  past_above at pw lo hi e =
      by_tests (int_le span.low at) (int_lt at span.high)
      (λ f. past_low (let p = above_out span.low at f in let q = mul_le (weak pw) p in let a =
      solve 2 (λ w a. (a ⊕ num (pos 1)) ⊗ w ≈ w ⊗ (a ⊕ num (pos 1))) cancels w at in let b =
      solve 2 (λ w a. a ⊗ w ≈ w ⊗ a) cancels w span.low in omega (arith, linear, q, a, b, hi)))
      (λ f. past_high (let p = not_below at span.high f in let q = mul_le (weak pw) p in let a =
      solve 2 (λ w a. a ⊗ w ≈ w ⊗ a) cancels w at in let b = solve 2 (λ w a. a ⊗ w ≈ w ⊗ a) cancels w span.high in
      omega (arith, linear, q, a, b, lo))) e
    where
      weak : {x : ℤ} → pos 0 <ℤ x → pos 0 ≤ℤ x
      weak l = omega (arith, linear, l)

      above_out : (a b : ℤ) → int_le a b ≡ false → (b +ℤ pos 1) ≤ℤ a
      above_out a b e = grind (arith, ints)

      not_below : (a b : ℤ) → int_lt a b ≡ false → b ≤ℤ a
      not_below a b e = grind (arith, ints)

  -- with a whole number at or below it outside
  pub past_floor : pos 0 <ℤ w → may_contain span (int_div_euclid y w) ≡ false → IsPast m t k y w
  past_floor pw e =
      by_tests (int_le span.low (int_div_euclid y w)) (int_le (int_div_euclid y w) span.high)
      (λ f. past_low (let l = below_floor y w span.low pw (above_out span.low (int_div_euclid y w) f) in omega (arith, linear, l)))
      (λ f. past_high (let l = above_floor y w span.high pw (above_out (int_div_euclid y w) span.high f) in omega (arith, linear, l))) e
    where
      above_out : (a b : ℤ) → int_le a b ≡ false → (b +ℤ pos 1) ≤ℤ a
      above_out a b e = grind (arith, ints)
