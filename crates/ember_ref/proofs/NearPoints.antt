-- A triangle whose closed face has a point in a box is near it.
use Rattle.std.proofs.Common.{◌≡◌, refl, ap, ◌∙◌, arith, zero, suc, Bool, true, false, ◌&&◌, ◌||◌, ℤ, pos, negsuc, ◌+ℤ◌, ◌-ℤ◌, ◌*ℤ◌, ◌<ℤ◌, ◌≤ℤ◌, int_le}
use Rattle.std.proofs.lemmas.Bool.{and_from}
use Rattle.std.proofs.lemmas.Int.{by_lt_z}
use borrow.Author.Differences.{ints}
use Rattle.ember_algebra.proofs.Laws.{linear}
use Rattle.ember_algebra.proofs.Order.{mul_le, cancel_le}
use Rattle.ember_algebra.proofs.Ring.{◌⊕◌, ◌⊖◌, ◌⊗◌, ◌≈◌, num, neg, solve, cancels}
use Rattle.ember_algebra.proofs.Numbers.{int_le_in}
use Rattle.ember_model.specs.declared.plane.Plane.{Plane}
use Rattle.ember_model.specs.declared.point.Corner.{Corner}
use Rattle.ember_model.specs.declared.point.Spot.{Spot}
use Rattle.ember_model.specs.declared.point.Axis.{Axis}
use Rattle.ember_model.specs.declared.point.Axis.TheVariants.{X, Y, Z}
use Rattle.ember_model.specs.declared.tri.Tri.{Tri}
use Rattle.ember_model.specs.Planes.{vector_of, value_at, support_of}
use Rattle.ember_model.specs.Faces.{is_flat, face_of, is_in_closed}
use Rattle.ember_model.specs.Owners.{spot_of_corner}
use Rattle.ember_model.proofs.Hits.{closed_parts}
use Rattle.ember_law.proofs.CornerSides.{above_corners}
use Rattle.ember_box.specs.declared.aabb.Interval.{Interval}
use Rattle.ember_box.specs.Boxes.{Cell, entry_along, low, high}
use Rattle.ember_box.specs.Near.{spans_meet, is_near}
use Rattle.ember_box.specs.Aabbs.{aabb_of_cell, least_end, greatest_end, least_value, greatest_value, crosses}
use Rattle.ember_box.proofs.Crossing.{crosses_is}
use Rattle.ember_ref.specs.ClosedBoxes.{IsAcross, HasPoint}

-- the coordinate of a point, times its weight
abbrev pub coordinate : Axis → Spot → ℤ
coordinate X v = v.x
coordinate Y v = v.y
coordinate Z v = v.z

-- ---- the support plane
-- n is not below 0: its part is least at the lower end, and greatest at the upper one
rising_low : (n x w : ℤ) (s : Interval) → pos 0 ≤ℤ n → IsAcross s x w → (w *ℤ (n *ℤ s.low)) ≤ℤ (n *ℤ x)
rising_low n x w s z b = omega (arith, linear, mul_le z b.from, solve 3 (λ w n l. w ⊗ (n ⊗ l) ≈ n ⊗ (l ⊗ w)) cancels w n s.low)

rising_high : (n x w : ℤ) (s : Interval) → pos 0 ≤ℤ n → IsAcross s x w → (n *ℤ x) ≤ℤ (w *ℤ (n *ℤ s.high))
rising_high n x w s z b = omega (arith, linear, mul_le z b.to, solve 3 (λ w n l. w ⊗ (n ⊗ l) ≈ n ⊗ (l ⊗ w)) cancels w n s.high)

least_part : (n x w : ℤ) (s : Interval) → IsAcross s x w → (w *ℤ (n *ℤ least_end n s)) ≤ℤ (n *ℤ x)
least_part (pos zero) x w s b = rising_low (pos zero) x w s (omega (arith, ints)) b
least_part (pos (suc n)) x w s b = rising_low (pos (suc n)) x w s (omega (arith, ints)) b
least_part (negsuc n) x w s b =
    let z : pos 0 ≤ℤ pos (suc n) = omega (arith, ints) in
    omega (
      arith,
      linear,
      mul_le z b.to,
      solve 2 (λ a x. neg a ⊗ x ≈ neg (a ⊗ x)) cancels (pos (suc n)) x,
      solve 3 (λ w n l. w ⊗ (neg n ⊗ l) ≈ neg (n ⊗ (l ⊗ w))) cancels w (pos (suc n)) s.high,
    )

greatest_part : (n x w : ℤ) (s : Interval) → IsAcross s x w → (n *ℤ x) ≤ℤ (w *ℤ (n *ℤ greatest_end n s))
greatest_part (pos zero) x w s b = rising_high (pos zero) x w s (omega (arith, ints)) b
greatest_part (pos (suc n)) x w s b = rising_high (pos (suc n)) x w s (omega (arith, ints)) b
greatest_part (negsuc n) x w s b =
    let z : pos 0 ≤ℤ pos (suc n) = omega (arith, ints) in
    omega (
      arith,
      linear,
      mul_le z b.from,
      solve 2 (λ a x. neg a ⊗ x ≈ neg (a ⊗ x)) cancels (pos (suc n)) x,
      solve 3 (λ w n l. w ⊗ (neg n ⊗ l) ≈ neg (n ⊗ (l ⊗ w))) cancels w (pos (suc n)) s.low,
    )

-- a plane that is 0 at a point of a box crosses the box
crosses_there : (p : Plane) (c : Cell) (v : Spot) → HasPoint c v → value_at p v ≡ pos 0 → crosses p (aabb_of_cell c) ≡ true
unfolding crosses
crosses_there p c v h z =
    let b = aabb_of_cell c in
    and_from (int_le (least_value p b) p.d) (int_le p.d (greatest_value p b))
    (int_le_in (least_value p b) p.d (cancel_le h.weight
    (omega (
      arith,
      linear,
      z,
      least_part p.a v.x v.w b.x h.on_x,
      least_part p.b v.y v.w b.y h.on_y,
      least_part p.c v.z v.w b.z h.on_z,
      solve 4 (λ w x y z. w ⊗ (x ⊕ y ⊕ z) ≈ w ⊗ x ⊕ w ⊗ y ⊕ w ⊗ z) cancels v.w
          (p.a *ℤ least_end p.a b.x) (p.b *ℤ least_end p.b b.y) (p.c *ℤ least_end p.c b.z),
      solve 2 (λ w d. w ⊗ d ≈ d ⊗ w) cancels v.w p.d,
    ))))
    (int_le_in p.d (greatest_value p b) (cancel_le h.weight
    (omega (
      arith,
      linear,
      z,
      greatest_part p.a v.x v.w b.x h.on_x,
      greatest_part p.b v.y v.w b.y h.on_y,
      greatest_part p.c v.z v.w b.z h.on_z,
      solve 4 (λ w x y z. w ⊗ (x ⊕ y ⊕ z) ≈ w ⊗ x ⊕ w ⊗ y ⊕ w ⊗ z) cancels v.w
          (p.a *ℤ greatest_end p.a b.x) (p.b *ℤ greatest_end p.b b.y) (p.c *ℤ greatest_end p.c b.z),
      solve 2 (λ w d. w ⊗ d ≈ d ⊗ w) cancels v.w p.d,
    ))))

-- ---- the bounding box
-- above the coordinate d of an axis, times s
abbrev axis_plane : Axis → ℤ → ℤ → Plane
axis_plane X s d = record { a = s; b = pos 0; c = pos 0; d = d }
axis_plane Y s d = record { a = pos 0; b = s; c = pos 0; d = d }
axis_plane Z s d = record { a = pos 0; b = pos 0; c = s; d = d }

axis_value : (k : Axis) (s d : ℤ) (v : Spot) → value_at (axis_plane k s d) v ≡ s *ℤ coordinate k v -ℤ d *ℤ v.w
axis_value X s d v = solve 6 (λ s d x y z w. s ⊗ x ⊕ num (pos 0) ⊗ y ⊕ num (pos 0) ⊗ z ⊖ d ⊗ w ≈ s ⊗ x ⊖ d ⊗ w) cancels s d v.x v.y v.z v.w
axis_value Y s d v = solve 6 (λ s d x y z w. num (pos 0) ⊗ x ⊕ s ⊗ y ⊕ num (pos 0) ⊗ z ⊖ d ⊗ w ≈ s ⊗ y ⊖ d ⊗ w) cancels s d v.x v.y v.z v.w
axis_value Z s d v = solve 6 (λ s d x y z w. num (pos 0) ⊗ x ⊕ num (pos 0) ⊗ y ⊕ s ⊗ z ⊖ d ⊗ w ≈ s ⊗ z ⊖ d ⊗ w) cancels s d v.x v.y v.z v.w

corner_is : (k : Axis) (u : Corner) → coordinate k (spot_of_corner u) ≡ entry_along k (vector_of u)
corner_is X u = refl
corner_is Y u = refl
corner_is Z u = refl

-- if all corners lie past a coordinate, so does each point of the closed face
corner_value : (k : Axis) (s d : ℤ) (u : Corner) → d ≤ℤ (s *ℤ entry_along k (vector_of u)) → pos 0 ≤ℤ value_at (axis_plane k s d) (spot_of_corner u)
corner_value k s d u l =
    let e = axis_value k s d (spot_of_corner u) in let f = ap (λ (x : ℤ). s *ℤ x) (corner_is k u) in
    let g : d *ℤ pos 1 ≡ d = omega (arith, ints) in omega (arith, linear, e, f, g, l)

-- if all corners of a triangle are on one side of a place along an axis, so is its closed face
pub past_corners : (k : Axis) (s d : ℤ) (t : Tri) (v : Spot) → is_flat t ≡ false →
    d ≤ℤ (s *ℤ entry_along k (vector_of t.a)) → d ≤ℤ (s *ℤ entry_along k (vector_of t.b)) →
    d ≤ℤ (s *ℤ entry_along k (vector_of t.c)) → is_in_closed (face_of t) v ≡ true → (d *ℤ v.w) ≤ℤ (s *ℤ coordinate k v)
past_corners k s d t v nf a b c h =
    let p = axis_plane k s d in let e = axis_value k s d v in
    let r = above_corners t p v nf (corner_value k s d t.a a) (corner_value k s d t.b b) (corner_value k s d t.c c) h in omega (arith, linear, e, r)

first : (s t u : Bool) → s ≡ true → s || (t || u) ≡ true
first true t u e = refl
first false t u e = cc

second : (s t u : Bool) → t ≡ true → s || (t || u) ≡ true
second true t u e = refl
second false true u e = refl
second false false u e = cc

third : (s t u : Bool) → u ≡ true → s || (t || u) ≡ true
third true t u e = refl
third false true u e = refl
third false false u e = e

some_below : (a b c h : ℤ) → (h <ℤ a → h <ℤ b → h <ℤ c → ⊥) → int_le a h || (int_le b h || int_le c h) ≡ true
some_below a b c h f =
    by_lt_z h a
    (λ la. by_lt_z h b
    (λ lb. by_lt_z h c (λ lc. absurd (f la lb lc)) (λ l. third (int_le a h) (int_le b h) (int_le c h) (int_le_in c h l)))
    (λ l. second (int_le a h) (int_le b h) (int_le c h) (int_le_in b h l)))
    (λ l. first (int_le a h) (int_le b h) (int_le c h) (int_le_in a h l))

some_above : (a b c h : ℤ) → (a <ℤ h → b <ℤ h → c <ℤ h → ⊥) → int_le h a || (int_le h b || int_le h c) ≡ true
some_above a b c h f =
    by_lt_z a h
    (λ la. by_lt_z b h
    (λ lb. by_lt_z c h (λ lc. absurd (f la lb lc)) (λ l. third (int_le h a) (int_le h b) (int_le h c) (int_le_in h c l)))
    (λ l. second (int_le h a) (int_le h b) (int_le h c) (int_le_in h b l)))
    (λ l. first (int_le h a) (int_le h b) (int_le h c) (int_le_in h a l))

meets_along : (c : Cell) (k : Axis) (t : Tri) (v : Spot) → is_flat t ≡ false → pos 0 <ℤ v.w →
    (low c k *ℤ v.w) ≤ℤ coordinate k v → coordinate k v ≤ℤ (high c k *ℤ v.w) → is_in_closed (face_of t) v ≡ true →
    spans_meet c t k ≡ true
meets_along c k t v nf w lo hi h =
    let a = entry_along k (vector_of t.a) in let b = entry_along k (vector_of t.b) in let d = entry_along k (vector_of t.c) in
    and_from (int_le a (high c k) || (int_le b (high c k) || int_le d (high c k))) (int_le (low c k) a || (int_le (low c k) b || int_le (low c k) d))
    (some_below a b d (high c k) (λ x y z. let r =
    past_corners k (pos 1) (high c k +ℤ pos 1) t v nf (up a x) (up b y) (up d z) h in let e =
    solve 2 (λ h w. (h ⊕ num (pos 1)) ⊗ w ≈ h ⊗ w ⊕ w) cancels (high c k) v.w in let f =
    solve 1 (λ x. num (pos 1) ⊗ x ≈ x) cancels (coordinate k v) in omega (arith, linear, r, e, f, w, hi)))
    (some_above a b d (low c k) (λ x y z. let r =
    past_corners k (negsuc 0) (pos 1 -ℤ low c k) t v nf (down a x) (down b y) (down d z) h in let e =
    solve 2 (λ h w. (num (pos 1) ⊖ h) ⊗ w ≈ w ⊖ h ⊗ w) cancels (low c k) v.w in let f =
    solve 1 (λ x. num (negsuc 0) ⊗ x ≈ neg x) cancels (coordinate k v) in omega (arith, linear, r, e, f, w, lo)))
  where
    up : (x : ℤ) → high c k <ℤ x → (high c k +ℤ pos 1) ≤ℤ (pos 1 *ℤ x)
    up x l = let f = solve 1 (λ x. num (pos 1) ⊗ x ≈ x) cancels x in omega (arith, linear, f, l)

    down : (x : ℤ) → x <ℤ low c k → (pos 1 -ℤ low c k) ≤ℤ (negsuc 0 *ℤ x)
    down x l = let f = solve 1 (λ x. num (negsuc 0) ⊗ x ≈ neg x) cancels x in omega (arith, linear, f, l)

-- a triangle with a point of its closed face in a box is near the box
pub near_point : (c : Cell) (t : Tri) (v : Spot) → is_flat t ≡ false → HasPoint c v → is_in_closed (face_of t) v ≡ true → is_near c t ≡ true
unfolding is_near face_of
near_point c t v nf p h =
    let x = meets_along c X t v nf p.weight p.on_x.from p.on_x.to h in
    let y = meets_along c Y t v nf p.weight p.on_y.from p.on_y.to h in
    let z = meets_along c Z t v nf p.weight p.on_z.from p.on_z.to h in
    let s = crosses_is c (support_of t) ∙ crosses_there (support_of t) c v p (closed_parts (face_of t) v h).1 in
    λ i. (x i && (y i && z i)) && s i
