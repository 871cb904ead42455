-- A plane's least and greatest value over a box: a plane crosses a box if the box's corners aren't
-- all strictly on one side of it.
use Rattle.std.proofs.Common.{◌≡◌, zero, suc, refl, sym, arith, Bool, true, false, not, ◌&&◌, if◌then◌else◌, ℤ, pos}
use Rattle.std.proofs.Common.{negsuc, ◌+ℤ◌, ◌*ℤ◌, neg_ℤ, ◌≤ℤ◌, ◌<ℤ◌, int_le, [], ◌∷◌}
use Rattle.std.specs.List.{list_all}
use Rattle.std.proofs.lemmas.Bool.{and_parts, and_from}
use Rattle.std.proofs.lemmas.Int.{by_lt_z}
use borrow.Author.Differences.{ints}
use Rattle.ember_algebra.specs.Sign.{is_negative, is_positive}
use Rattle.ember_algebra.proofs.Laws.{linear}
use Rattle.ember_algebra.proofs.Order.{mul_le}
use Rattle.ember_algebra.proofs.Ring.{◌⊗◌, ◌≈◌, neg, solve, cancels}
use Rattle.ember_algebra.proofs.Numbers.{int_le_in, int_le_out}
use Rattle.ember_model.specs.declared.plane.Plane.{Plane}
use Rattle.ember_model.specs.declared.point.Spot.{Spot}
use Rattle.ember_model.specs.declared.point.Axis.TheVariants.{X, Y, Z}
use Rattle.ember_model.specs.Planes.{value_at}
use Rattle.ember_model.specs.Points.{moved}
use Rattle.ember_model.proofs.SignTests.{positive_in, positive_out, negative_in, negative_out}
use Rattle.ember_box.specs.declared.aabb.Interval.{Interval}
use Rattle.ember_box.specs.declared.aabb.Aabb.{Aabb}
use Rattle.ember_box.specs.Boxes.{Cell, low, high, side}
use Rattle.ember_box.specs.Near.{spot_of_vector, corners}
use Rattle.ember_box.specs.Aabbs.{aabb_of_cell, least_end, greatest_end, least_value, greatest_value, crosses}

-- ---- one axis
pub record IsBetween (s : Interval) (x : ℤ) : Type 0 where
  pub from : s.low ≤ℤ x
  pub to : x ≤ℤ s.high

least_term : (n x : ℤ) (s : Interval) → IsBetween s x → (n *ℤ least_end n s) ≤ℤ (n *ℤ x)
least_term (pos zero) x s b =
    let z : pos 0 ≤ℤ pos zero = omega (arith, ints) in mul_le z b.from
least_term (pos (suc n)) x s b =
    let z : pos 0 ≤ℤ pos (suc n) = omega (arith, ints) in mul_le z b.from
least_term (negsuc n) x s b =
    let z : pos 0 ≤ℤ pos (suc n) = omega (arith, ints) in
    let e : neg_ℤ (pos (suc n)) ≡ negsuc n = refl in
    let m = mul_le z b.to in
    omega (
      arith,
      linear,
      m,
      solve 2 (λ a x. neg a ⊗ x ≈ neg (a ⊗ x)) cancels (pos (suc n)) x,
      solve 2 (λ a x. neg a ⊗ x ≈ neg (a ⊗ x)) cancels (pos (suc n)) s.high,
    )

greatest_term : (n x : ℤ) (s : Interval) → IsBetween s x → (n *ℤ x) ≤ℤ (n *ℤ greatest_end n s)
greatest_term (pos zero) x s b =
    let z : pos 0 ≤ℤ pos zero = omega (arith, ints) in mul_le z b.to
greatest_term (pos (suc n)) x s b =
    let z : pos 0 ≤ℤ pos (suc n) = omega (arith, ints) in mul_le z b.to
greatest_term (negsuc n) x s b =
    let z : pos 0 ≤ℤ pos (suc n) = omega (arith, ints) in
    let e : neg_ℤ (pos (suc n)) ≡ negsuc n = refl in
    let m = mul_le z b.from in
    omega (
      arith,
      linear,
      m,
      solve 2 (λ a x. neg a ⊗ x ≈ neg (a ⊗ x)) cancels (pos (suc n)) x,
      solve 2 (λ a x. neg a ⊗ x ≈ neg (a ⊗ x)) cancels (pos (suc n)) s.low,
    )

-- ---- a box
pub record IsIn (b : Aabb) (x y z : ℤ) : Type 0 where
  pub on_x : IsBetween b.x x
  pub on_y : IsBetween b.y y
  pub on_z : IsBetween b.z z

least_at : (p : Plane) (b : Aabb) (x y z : ℤ) → IsIn b x y z → least_value p b ≤ℤ (p.a *ℤ x +ℤ p.b *ℤ y +ℤ p.c *ℤ z)
least_at p b x y z i =
    omega (arith, linear, least_term p.a x b.x i.on_x, least_term p.b y b.y i.on_y, least_term p.c z b.z i.on_z)

greatest_at : (p : Plane) (b : Aabb) (x y z : ℤ) → IsIn b x y z → (p.a *ℤ x +ℤ p.b *ℤ y +ℤ p.c *ℤ z) ≤ℤ greatest_value p b
greatest_at p b x y z i =
    omega (arith, linear, greatest_term p.a x b.x i.on_x, greatest_term p.b y b.y i.on_y, greatest_term p.c z b.z i.on_z)

-- a plane that is 0 somewhere in a box crosses it
pub crosses_at : (p : Plane) (b : Aabb) (x y z : ℤ) → IsIn b x y z → p.a *ℤ x +ℤ p.b *ℤ y +ℤ p.c *ℤ z ≡ p.d → crosses p b ≡ true
unfolding crosses
crosses_at p b x y z i e =
    and_from (int_le (least_value p b) p.d) (int_le p.d (greatest_value p b))
    (int_le_in (least_value p b) p.d (omega (arith, linear, least_at p b x y z i, e)))
    (int_le_in p.d (greatest_value p b) (omega (arith, linear, greatest_at p b x y z i, e)))

-- ---- the eight corners
abbrev corner : ℤ → ℤ → ℤ → Spot
corner x y z = record { x = x; y = y; z = z; w = pos 1 }

pub record Eight (c : Cell) (q : Spot → Bool) : Type 0 where
  pub at : (s t u : Bool) → q (corner (if s then high c X else low c X) (if t then high c Y else low c Y) (if u then high c Z else low c Z)) ≡ true

eight_out : (c : Cell) (q : Spot → Bool) → list_all q (corners c) ≡ true → Eight c q
eight_out c q e =
    let o = spot_of_vector c.lo in let a = moved o X (side c X) in let b = moved o Y (side c Y) in
    let d = moved b X (side c X) in let f = moved o Z (side c Z) in let g = moved f X (side c X) in
    let h = moved f Y (side c Y) in let j = moved h X (side c X) in
    let r1 = and_parts (q o) (list_all q (a ∷ b ∷ d ∷ f ∷ g ∷ h ∷ j ∷ [])) e in
    let r2 = and_parts (q a) (list_all q (b ∷ d ∷ f ∷ g ∷ h ∷ j ∷ [])) r1.1 in
    let r3 = and_parts (q b) (list_all q (d ∷ f ∷ g ∷ h ∷ j ∷ [])) r2.1 in
    let r4 = and_parts (q d) (list_all q (f ∷ g ∷ h ∷ j ∷ [])) r3.1 in
    let r5 = and_parts (q f) (list_all q (g ∷ h ∷ j ∷ [])) r4.1 in
    let r6 = and_parts (q g) (list_all q (h ∷ j ∷ [])) r5.1 in
    let r7 = and_parts (q h) (list_all q (j ∷ [])) r6.1 in
    let r8 = and_parts (q j) true r7.1 in
    record { at = by r1.0 r2.0 r3.0 r4.0 r5.0 r6.0 r7.0 r8.0 }
  where
    by : q (spot_of_vector c.lo) ≡ true → q (moved (spot_of_vector c.lo) X (side c X)) ≡ true →
        q (moved (spot_of_vector c.lo) Y (side c Y)) ≡ true →
        q (moved (moved (spot_of_vector c.lo) Y (side c Y)) X (side c X)) ≡ true →
        q (moved (spot_of_vector c.lo) Z (side c Z)) ≡ true →
        q (moved (moved (spot_of_vector c.lo) Z (side c Z)) X (side c X)) ≡ true →
        q (moved (moved (spot_of_vector c.lo) Z (side c Z)) Y (side c Y)) ≡ true →
        q (moved (moved (moved (spot_of_vector c.lo) Z (side c Z)) Y (side c Y)) X (side c X)) ≡ true → (s t u : Bool) →
        q (corner (if s then high c X else low c X) (if t then high c Y else low c Y) (if u then high c Z else low c Z))
        ≡ true
    by r1 r2 r3 r4 r5 r6 r7 r8 false false false = r1
    by r1 r2 r3 r4 r5 r6 r7 r8 true false false = r2
    by r1 r2 r3 r4 r5 r6 r7 r8 false true false = r3
    by r1 r2 r3 r4 r5 r6 r7 r8 true true false = r4
    by r1 r2 r3 r4 r5 r6 r7 r8 false false true = r5
    by r1 r2 r3 r4 r5 r6 r7 r8 true false true = r6
    by r1 r2 r3 r4 r5 r6 r7 r8 false true true = r7
    by r1 r2 r3 r4 r5 r6 r7 r8 true true true = r8

eight_in : (c : Cell) (q : Spot → Bool) → ((s t u : Bool) →
    q (corner (if s then high c X else low c X) (if t then high c Y else low c Y) (if u then high c Z else low c Z))
    ≡ true) → list_all q (corners c) ≡ true
eight_in c q h =
    rw (
      h false false false,
      h true false false,
      h false true false,
      h true true false,
      h false false true,
      h true false true,
      h false true true,
      h true true true,
    ) refl

-- each of them lies in the box
end_in : (l : ℤ) (n : ℤ) (s : Bool) → pos 0 ≤ℤ n → IsBetween (record { low = l; high = l +ℤ n }) (if s then l +ℤ n else l)
end_in l n true p = record { from = omega (arith, linear); to = omega (arith, linear) }
end_in l n false p = record { from = omega (arith, linear); to = omega (arith, linear) }

-- each corner of a box lies in its bounding box
pub corner_in : (c : Cell) (s t u : Bool) → IsIn (aabb_of_cell c) (if s then high c X else low c X)
    (if t then high c Y else low c Y) (if u then high c Z else low c Z)
corner_in c s t u =
    record {
      on_x = end_in (low c X) (side c X) s (omega (arith, ints));
      on_y = end_in (low c Y) (side c Y) t (omega (arith, ints));
      on_z = end_in (low c Z) (side c Z) u (omega (arith, ints));
    }

-- all positive, where the least is above the constant
all_positive : (c : Cell) (p : Plane) → p.d <ℤ least_value p (aabb_of_cell c) → list_all (λ v. is_positive (value_at p v)) (corners c) ≡ true
all_positive c p h =
    eight_in c (λ v. is_positive (value_at p v))
    (λ s t u. positive_in (above (if s then high c X else low c X) (if t then high c Y else low c Y)
    (if u then high c Z else low c Z) (corner_in c s t u)))
  where
    above : (x y z : ℤ) → IsIn (aabb_of_cell c) x y z → pos 0 <ℤ value_at p (corner x y z)
    above x y z i = omega (arith, linear, least_at p (aabb_of_cell c) x y z i)

all_negative : (c : Cell) (p : Plane) → greatest_value p (aabb_of_cell c) <ℤ p.d → list_all (λ v. is_negative (value_at p v)) (corners c) ≡ true
all_negative c p h =
    eight_in c (λ v. is_negative (value_at p v))
    (λ s t u. negative_in (under (if s then high c X else low c X) (if t then high c Y else low c Y)
    (if u then high c Z else low c Z) (corner_in c s t u)))
  where
    under : (x y z : ℤ) → IsIn (aabb_of_cell c) x y z → value_at p (corner x y z) <ℤ pos 0
    under x y z i = omega (arith, linear, greatest_at p (aabb_of_cell c) x y z i)

-- and only there
least_above : (c : Cell) (p : Plane) → list_all (λ v. is_positive (value_at p v)) (corners c) ≡ true → p.d <ℤ least_value p (aabb_of_cell c)
least_above c p e =
    let h = (eight_out c (λ v. is_positive (value_at p v)) e).at (is_negative p.a) (is_negative p.b) (is_negative p.c) in
    let m = positive_out (value_at p (corner (least_end p.a (aabb_of_cell c).x) (least_end p.b (aabb_of_cell c).y) (least_end p.c (aabb_of_cell c).z))) h in
    omega (arith, linear, m)

greatest_under : (c : Cell) (p : Plane) → list_all (λ v. is_negative (value_at p v)) (corners c) ≡ true → greatest_value p (aabb_of_cell c) <ℤ p.d
greatest_under c p e =
    let h = (eight_out c (λ v. is_negative (value_at p v)) e).at (not (is_negative p.a)) (not (is_negative p.b)) (not (is_negative p.c)) in
    let m = negative_out (value_at p (corner (if not (is_negative p.a) then high c X else low c X)
    (if not (is_negative p.b) then high c Y else low c Y) (if not (is_negative p.c) then high c Z else low c Z))) h in
    let x = turned (is_negative p.a) (low c X) (high c X) in let y = turned (is_negative p.b) (low c Y) (high c Y) in
    let z = turned (is_negative p.c) (low c Z) (high c Z) in
    let k : value_at p (corner (greatest_end p.a (aabb_of_cell c).x) (greatest_end p.b (aabb_of_cell c).y)
    (greatest_end p.c (aabb_of_cell c).z)) <ℤ pos 0 = rw (← x, ← y, ← z) m in
    omega (arith, linear, k)
  where
    turned : (s : Bool) (l h : ℤ) → (if not s then h else l) ≡ (if s then l else h)
    turned true l h = refl
    turned false l h = refl

-- a plane crosses a box if its corners are neither all above nor all below
pub crosses_is : (c : Cell) (p : Plane) → (not (list_all (λ v. is_positive (value_at p v)) (corners c))
    && not (list_all (λ v. is_negative (value_at p v)) (corners c))) ≡ crosses p (aabb_of_cell c)
unfolding crosses
crosses_is c p =
    λ i. opposite (list_all (λ v. is_positive (value_at p v)) (corners c)) (int_le (least_value p (aabb_of_cell c)) p.d)
    not_above not_both i && opposite (list_all (λ v. is_negative (value_at p v)) (corners c))
    (int_le p.d (greatest_value p (aabb_of_cell c))) not_under not_two i
  where
    opposite : (s t : Bool) → (s ≡ true → t ≡ true → ⊥) → (s ≡ false → t ≡ true) → not s ≡ t
    opposite true true f g = absurd (f refl refl)
    opposite true false f g = refl
    opposite false t f g = sym (g refl)

    not_above : list_all (λ v. is_positive (value_at p v)) (corners c) ≡ true → int_le (least_value p (aabb_of_cell c)) p.d ≡ true → ⊥
    not_above e d = omega (arith, linear, least_above c p e, int_le_out (least_value p (aabb_of_cell c)) p.d d)

    not_under : list_all (λ v. is_negative (value_at p v)) (corners c) ≡ true → int_le p.d (greatest_value p (aabb_of_cell c)) ≡ true → ⊥
    not_under e d = omega (arith, linear, greatest_under c p e, int_le_out p.d (greatest_value p (aabb_of_cell c)) d)

    clash : (s : Bool) → s ≡ true → s ≡ false → ⊥
    clash s p q = cc

    not_both : list_all (λ v. is_positive (value_at p v)) (corners c) ≡ false → int_le (least_value p (aabb_of_cell c)) p.d ≡ true
    not_both e =
        by_lt_z p.d (least_value p (aabb_of_cell c))
        (λ h. absurd (clash (list_all (λ v. is_positive (value_at p v)) (corners c)) (all_positive c p h) e))
        (λ h. int_le_in (least_value p (aabb_of_cell c)) p.d h)

    not_two : list_all (λ v. is_negative (value_at p v)) (corners c) ≡ false → int_le p.d (greatest_value p (aabb_of_cell c)) ≡ true
    not_two e =
        by_lt_z (greatest_value p (aabb_of_cell c)) p.d
        (λ h. absurd (clash (list_all (λ v. is_negative (value_at p v)) (corners c)) (all_negative c p h) e))
        (λ h. int_le_in p.d (greatest_value p (aabb_of_cell c)) h)

-- ---- a box in another
pub record IsWithin (b h : Aabb) : Type 0 where
  pub x_low : IsBetween b.x h.x.low
  pub x_high : IsBetween b.x h.x.high
  pub y_low : IsBetween b.y h.y.low
  pub y_high : IsBetween b.y h.y.high
  pub z_low : IsBetween b.z h.z.low
  pub z_high : IsBetween b.z h.z.high

end_within : (s : Bool) (b h : Interval) → IsBetween b h.low → IsBetween b h.high → IsBetween b (if s then h.high else h.low)
end_within true b h l k = k
end_within false b h l k = l

start_within : (s : Bool) (b h : Interval) → IsBetween b h.low → IsBetween b h.high → IsBetween b (if s then h.low else h.high)
start_within true b h l k = l
start_within false b h l k = k

-- a plane that crosses a box crosses what it lies in
pub crosses_more : (p : Plane) (b h : Aabb) → IsWithin b h → crosses p h ≡ true → crosses p b ≡ true
unfolding crosses
crosses_more p b h w e =
    let parts = and_parts (int_le (least_value p h) p.d) (int_le p.d (greatest_value p h)) e in
    let l = least_at p b (least_end p.a h.x) (least_end p.b h.y) (least_end p.c h.z)
    (record {
      on_x = end_within (is_negative p.a) b.x h.x w.x_low w.x_high;
      on_y =
          end_within (is_negative p.b) b.y h.y w.y_low w.y_high;
      on_z =
          end_within (is_negative p.c) b.z h.z w.z_low w.z_high;
    }) in
    let g = greatest_at p b (greatest_end p.a h.x) (greatest_end p.b h.y) (greatest_end p.c h.z)
    (record {
      on_x = start_within (is_negative p.a) b.x h.x w.x_low w.x_high;
      on_y =
          start_within (is_negative p.b) b.y h.y w.y_low w.y_high;
      on_z =
          start_within (is_negative p.c) b.z h.z w.z_low w.z_high;
    }) in
    and_from (int_le (least_value p b) p.d) (int_le p.d (greatest_value p b))
    (int_le_in (least_value p b) p.d (omega (arith, linear, l, int_le_out (least_value p h) p.d parts.0)))
    (int_le_in p.d (greatest_value p b) (omega (arith, linear, g, int_le_out p.d (greatest_value p h) parts.1)))
