-- Near triangles by bounding boxes: a triangle that has a corner in a box is near it, and
-- one that is near a half is near the whole.
use Rattle.std.proofs.Common.{◌≡◌, ⊎_elim, ℕ, zero, suc, pred, ◌^◌, ◌<◌, refl, sym, ◌∙◌, arith, true, ◌&&◌, ◌||◌, ℤ, pos, ◌+ℤ◌, ◌*ℤ◌, ◌≤ℤ◌, int_le}
use Rattle.std.specs.Int.{int_min, int_max}
use Rattle.std.proofs.Math.Nat.{pow-succ'}
use Rattle.std.proofs.lemmas.Int.{clamps}
use Rattle.std.proofs.lemmas.Bool.{and_parts, and_from}
use borrow.Author.Differences.{ints}
use Rattle.ember_algebra.proofs.Laws.{linear}
use Rattle.ember_algebra.proofs.Ring.{◌⊕◌, ◌⊖◌, ◌⊗◌, ◌≈◌, solve, cancels}
use Rattle.ember_algebra.proofs.Numbers.{int_le_in, int_le_out}
use Rattle.ember_model.specs.declared.tri.Tri.{Tri}
use Rattle.ember_model.specs.declared.point.Corner.{Corner}
use Rattle.ember_model.specs.declared.point.Axis.{Axis}
use Rattle.ember_model.specs.declared.point.Axis.TheVariants.{X, Y, Z}
use Rattle.ember_model.specs.Planes.{vector_of, support_of}
use Rattle.ember_box.specs.declared.aabb.Interval.{Interval}
use Rattle.ember_box.specs.declared.aabb.Aabb.{Aabb}
use Rattle.ember_box.specs.Boxes.{Cell, entry_along, low, high, left_half, right_half}
use Rattle.ember_box.specs.Near.{spans_meet, is_near}
use Rattle.ember_box.specs.Aabbs.{aabb_of_cell, interval_over, aabb_of_tri, intervals_meet, aabbs_meet, covers}
use Rattle.ember_box.specs.Aabbs.{contains_aabb, contains_coordinate, contains_corner, crosses}
use Rattle.ember_box.proofs.Orders.{and_assoc, one_of_three, least_of, greatest_of, reaches_is, All3, all3, from3}
use Rattle.ember_box.proofs.Crossing.{IsBetween, IsIn, IsWithin, crosses_at, crosses_is, crosses_more}

-- a triangle is near a box if their bounding boxes meet and its plane crosses the box
pub near_is : (c : Cell) (t : Tri) → is_near c t ≡ aabbs_meet (aabb_of_tri t) (aabb_of_cell c) && crosses (support_of t) (aabb_of_cell c)
unfolding is_near
near_is c t =
    λ i. (boxes i) && crosses_is c (support_of t) i
  where
    boxes : spans_meet c t X && (spans_meet c t Y && spans_meet c t Z) ≡ aabbs_meet (aabb_of_tri t) (aabb_of_cell c)
    boxes =
        sym ((λ i. reaches_is t.a.x t.b.x t.c.x (aabb_of_cell c).x i
        && reaches_is t.a.y t.b.y t.c.y (aabb_of_cell c).y i && reaches_is t.a.z t.b.z t.c.z (aabb_of_cell c).z i)
        ∙ and_assoc (spans_meet c t X) (spans_meet c t Y) (spans_meet c t Z))

-- ---- a corner in the box
abbrev pub IsInside : Aabb → Corner → Type 0
IsInside b u = IsIn b u.x u.y u.z

on_plane_a : (t : Tri) → (support_of t).a *ℤ t.a.x +ℤ (support_of t).b *ℤ t.a.y +ℤ (support_of t).c *ℤ t.a.z ≡ (support_of t).d
on_plane_a t = refl

on_plane_b : (t : Tri) → (support_of t).a *ℤ t.b.x +ℤ (support_of t).b *ℤ t.b.y +ℤ (support_of t).c *ℤ t.b.z ≡ (support_of t).d
on_plane_b t =
    solve 9 (λ u v w l m n x y z. ((m ⊖ v) ⊗ (z ⊖ w) ⊖ (n ⊖ w) ⊗ (y ⊖ v)) ⊗ l ⊕ ((n ⊖ w) ⊗ (x ⊖ u) ⊖ (l ⊖ u) ⊗ (z ⊖ w))
    ⊗ m ⊕ ((l ⊖ u) ⊗ (y ⊖ v) ⊖ (m ⊖ v) ⊗ (x ⊖ u)) ⊗ n ≈ ((m ⊖ v) ⊗ (z ⊖ w) ⊖ (n ⊖ w) ⊗ (y ⊖ v)) ⊗ u ⊕
    ((n ⊖ w) ⊗ (x ⊖ u) ⊖ (l ⊖ u) ⊗ (z ⊖ w)) ⊗ v ⊕ ((l ⊖ u) ⊗ (y ⊖ v) ⊖ (m ⊖ v) ⊗ (x ⊖ u)) ⊗ w) cancels t.a.x t.a.y
    t.a.z t.b.x t.b.y t.b.z t.c.x t.c.y t.c.z

on_plane_c : (t : Tri) → (support_of t).a *ℤ t.c.x +ℤ (support_of t).b *ℤ t.c.y +ℤ (support_of t).c *ℤ t.c.z ≡ (support_of t).d
on_plane_c t =
    solve 9 (λ u v w l m n x y z. ((m ⊖ v) ⊗ (z ⊖ w) ⊖ (n ⊖ w) ⊗ (y ⊖ v)) ⊗ x ⊕ ((n ⊖ w) ⊗ (x ⊖ u) ⊖ (l ⊖ u) ⊗ (z ⊖ w))
    ⊗ y ⊕ ((l ⊖ u) ⊗ (y ⊖ v) ⊖ (m ⊖ v) ⊗ (x ⊖ u)) ⊗ z ≈ ((m ⊖ v) ⊗ (z ⊖ w) ⊖ (n ⊖ w) ⊗ (y ⊖ v)) ⊗ u ⊕
    ((n ⊖ w) ⊗ (x ⊖ u) ⊖ (l ⊖ u) ⊗ (z ⊖ w)) ⊗ v ⊕ ((l ⊖ u) ⊗ (y ⊖ v) ⊖ (m ⊖ v) ⊗ (x ⊖ u)) ⊗ w) cancels t.a.x t.a.y
    t.a.z t.b.x t.b.y t.b.z t.c.x t.c.y t.c.z

-- the plane of a triangle crosses a bounding box that has the triangle's first corner
pub crossed_a : (t : Tri) (b : Aabb) → IsInside b t.a → crosses (support_of t) b ≡ true
crossed_a t b i = crosses_at (support_of t) b t.a.x t.a.y t.a.z i (on_plane_a t)

crossed_b : (t : Tri) (b : Aabb) → IsInside b t.b → crosses (support_of t) b ≡ true
crossed_b t b i = crosses_at (support_of t) b t.b.x t.b.y t.b.z i (on_plane_b t)

crossed_c : (t : Tri) (b : Aabb) → IsInside b t.c → crosses (support_of t) b ≡ true
crossed_c t b i = crosses_at (support_of t) b t.c.x t.c.y t.c.z i (on_plane_c t)

between_out : (s : Interval) (x : ℤ) → contains_coordinate s x ≡ true → IsBetween s x
between_out s x e =
    let r = and_parts (int_le s.low x) (int_le x s.high) e in
    record { from = int_le_out s.low x r.0; to = int_le_out x s.high r.1 }

-- a corner that passes the test lies in the bounding box
pub inside_out : (b : Aabb) (u : Corner) → contains_corner b u ≡ true → IsInside b u
inside_out b u e =
    let r = all3 (contains_coordinate b.x u.x) (contains_coordinate b.y u.y) (contains_coordinate b.z u.z) e in
    record { on_x = between_out b.x u.x r.one; on_y = between_out b.y u.y r.two; on_z = between_out b.z u.z r.three }

-- ---- halves
-- two halves of a side end where the side ends
pub halves_end : (l : ℤ) (n : ℕ) → 0 < n → l +ℤ pos (2 ^ pred n) +ℤ pos (2 ^ pred n) ≡ l +ℤ pos (2 ^ n)
halves_end l zero above = absurd (omega arith)
halves_end l (suc m) above = let e = pow-succ' 2 m in omega (arith, ints, e)

left_in : (c : Cell) (k : Axis) (u : Corner) → IsInside (aabb_of_cell c) u →
    entry_along k (vector_of u) ≤ℤ high (left_half c k) k → IsInside (aabb_of_cell (left_half c k)) u
left_in c X u i h = record { on_x = record { from = i.on_x.from; to = h }; on_y = i.on_y; on_z = i.on_z }
left_in c Y u i h = record { on_x = i.on_x; on_y = record { from = i.on_y.from; to = h }; on_z = i.on_z }
left_in c Z u i h = record { on_x = i.on_x; on_y = i.on_y; on_z = record { from = i.on_z.from; to = h } }

right_in : (c : Cell) (k : Axis) (u : Corner) → 0 < c.log k → IsInside (aabb_of_cell c) u →
    low (right_half c k) k ≤ℤ entry_along k (vector_of u) → IsInside (aabb_of_cell (right_half c k)) u
right_in c X u p i h =
    let e = halves_end (low c X) (c.log X) p in
    record { on_x = record { from = h; to = omega (arith, linear, i.on_x.to, e) }; on_y = i.on_y; on_z = i.on_z }
right_in c Y u p i h =
    let e = halves_end (low c Y) (c.log Y) p in
    record { on_x = i.on_x; on_y = record { from = h; to = omega (arith, linear, i.on_y.to, e) }; on_z = i.on_z }
right_in c Z u p i h =
    let e = halves_end (low c Z) (c.log Z) p in
    record { on_x = i.on_x; on_y = i.on_y; on_z = record { from = h; to = omega (arith, linear, i.on_z.to, e) } }

-- all corners in a box
pub record AreInside (b : Aabb) (t : Tri) : Type 0 where
  pub of_a : IsInside b t.a
  pub of_b : IsInside b t.b
  pub of_c : IsInside b t.c

-- the plane of a triangle crosses a bounding box that has its corners
pub inside_crossed : (t : Tri) (b : Aabb) → AreInside b t → crosses (support_of t) b ≡ true
inside_crossed t b i = crossed_a t b i.of_a

covered : (x y z : ℤ) (s : Interval) → covers s (interval_over x y z) ≡ true → IsBetween s x × (IsBetween s y × IsBetween s z)
covered x y z s e =
    let r = and_parts (int_le s.low (int_min (int_min x y) z)) (int_le (int_max (int_max x y) z) s.high) e in
    let l = int_le_out s.low (int_min (int_min x y) z) r.0 in let h = int_le_out (int_max (int_max x y) z) s.high r.1 in (
      record { from = omega (arith, ints, clamps, l); to = omega (arith, ints, clamps, h) },
      (
        record { from = omega (arith, ints, clamps, l); to = omega (arith, ints, clamps, h) },
        record { from = omega (arith, ints, clamps, l); to = omega (arith, ints, clamps, h) },
      ),
    )

-- the corners of a triangle lie in a bounding box that contains the triangle's
pub are_inside : (b : Aabb) (t : Tri) → contains_aabb b (aabb_of_tri t) ≡ true → AreInside b t
are_inside b t e =
    let r = all3 (covers b.x (aabb_of_tri t).x) (covers b.y (aabb_of_tri t).y) (covers b.z (aabb_of_tri t).z) e in
    let x = covered t.a.x t.b.x t.c.x b.x r.one in let y = covered t.a.y t.b.y t.c.y b.y r.two in let z = covered t.a.z t.b.z t.c.z b.z r.three in
    record {
      of_a = record { on_x = x.0; on_y = y.0; on_z = z.0 };
      of_b = record { on_x = x.1.0; on_y = y.1.0; on_z = z.1.0 };
      of_c = record { on_x = x.1.1; on_y = y.1.1; on_z = z.1.1 };
    }

-- a half is crossed if the triangle lies in the box and its bounding box meets the half
some_left : (c : Cell) (k : Axis) (t : Tri) → AreInside (aabb_of_cell c) t →
    int_le (entry_along k (vector_of t.a)) (high (left_half c k) k)
    || (int_le (entry_along k (vector_of t.b)) (high (left_half c k) k)
    || int_le (entry_along k (vector_of t.c)) (high (left_half c k) k)) ≡ true →
    crosses (support_of t) (aabb_of_cell (left_half c k)) ≡ true
some_left c k t i e =
    let h = high (left_half c k) k in
    ⊎_elim (λ p. crossed_a t (aabb_of_cell (left_half c k)) (left_in c k t.a i.of_a (int_le_out (entry_along k (vector_of t.a)) h p)))
    (λ q. ⊎_elim (λ p. crossed_b t (aabb_of_cell (left_half c k))
    (left_in c k t.b i.of_b (int_le_out (entry_along k (vector_of t.b)) h p)))
    (λ p. crossed_c t (aabb_of_cell (left_half c k))
    (left_in c k t.c i.of_c (int_le_out (entry_along k (vector_of t.c)) h p))) q)
    (one_of_three (int_le (entry_along k (vector_of t.a)) h) (int_le (entry_along k (vector_of t.b)) h) (int_le (entry_along k (vector_of t.c)) h) e)

some_right : (c : Cell) (k : Axis) (t : Tri) → 0 < c.log k → AreInside (aabb_of_cell c) t →
    int_le (low (right_half c k) k) (entry_along k (vector_of t.a))
    || (int_le (low (right_half c k) k) (entry_along k (vector_of t.b))
    || int_le (low (right_half c k) k) (entry_along k (vector_of t.c))) ≡ true →
    crosses (support_of t) (aabb_of_cell (right_half c k)) ≡ true
some_right c k t p i e =
    let l = low (right_half c k) k in
    ⊎_elim (λ h. crossed_a t (aabb_of_cell (right_half c k)) (right_in c k t.a p i.of_a (int_le_out l (entry_along k (vector_of t.a)) h)))
    (λ q. ⊎_elim (λ h. crossed_b t (aabb_of_cell (right_half c k))
    (right_in c k t.b p i.of_b (int_le_out l (entry_along k (vector_of t.b)) h)))
    (λ h. crossed_c t (aabb_of_cell (right_half c k))
    (right_in c k t.c p i.of_c (int_le_out l (entry_along k (vector_of t.c)) h))) q)
    (one_of_three (int_le l (entry_along k (vector_of t.a))) (int_le l (entry_along k (vector_of t.b))) (int_le l (entry_along k (vector_of t.c))) e)

overlaps : (a b : Aabb) → aabbs_meet a b ≡ true → All3 (intervals_meet a.x b.x) (intervals_meet a.y b.y) (intervals_meet a.z b.z)
overlaps a b e = all3 (intervals_meet a.x b.x) (intervals_meet a.y b.y) (intervals_meet a.z b.z) e

lowest : (a b c : ℤ) (s : Interval) → intervals_meet (interval_over a b c) s ≡ true → int_le a s.high || (int_le b s.high || int_le c s.high) ≡ true
lowest a b c s e =
    sym (least_of a b c s.high) ∙ (and_parts (int_le (int_min (int_min a b) c) s.high) (int_le s.low (int_max (int_max a b) c)) e).0

highest : (a b c : ℤ) (s : Interval) → intervals_meet (interval_over a b c) s ≡ true → int_le s.low a || (int_le s.low b || int_le s.low c) ≡ true
highest a b c s e =
    sym (greatest_of a b c s.low) ∙ (and_parts (int_le (int_min (int_min a b) c) s.high) (int_le s.low (int_max (int_max a b) c)) e).1

-- the plane of a triangle in a box crosses the left half if the triangle's bounding box meets it
pub left_crossed : (c : Cell) (k : Axis) (t : Tri) → AreInside (aabb_of_cell c) t →
    aabbs_meet (aabb_of_tri t) (aabb_of_cell (left_half c k)) ≡ true →
    crosses (support_of t) (aabb_of_cell (left_half c k)) ≡ true
left_crossed c X t i e =
    some_left c X t i (lowest t.a.x t.b.x t.c.x (aabb_of_cell (left_half c X)).x (overlaps (aabb_of_tri t) (aabb_of_cell (left_half c X)) e).one)
left_crossed c Y t i e =
    some_left c Y t i (lowest t.a.y t.b.y t.c.y (aabb_of_cell (left_half c Y)).y (overlaps (aabb_of_tri t) (aabb_of_cell (left_half c Y)) e).two)
left_crossed c Z t i e =
    some_left c Z t i (lowest t.a.z t.b.z t.c.z (aabb_of_cell (left_half c Z)).z (overlaps (aabb_of_tri t) (aabb_of_cell (left_half c Z)) e).three)

-- the plane of a triangle in a box crosses the right half if the triangle's bounding box meets it
pub right_crossed : (c : Cell) (k : Axis) (t : Tri) → 0 < c.log k → AreInside (aabb_of_cell c) t →
    aabbs_meet (aabb_of_tri t) (aabb_of_cell (right_half c k)) ≡ true →
    crosses (support_of t) (aabb_of_cell (right_half c k)) ≡ true
right_crossed c X t p i e =
    some_right c X t p i (highest t.a.x t.b.x t.c.x (aabb_of_cell (right_half c X)).x (overlaps (aabb_of_tri t) (aabb_of_cell (right_half c X)) e).one)
right_crossed c Y t p i e =
    some_right c Y t p i (highest t.a.y t.b.y t.c.y (aabb_of_cell (right_half c Y)).y (overlaps (aabb_of_tri t) (aabb_of_cell (right_half c Y)) e).two)
right_crossed c Z t p i e =
    some_right c Z t p i (highest t.a.z t.b.z t.c.z (aabb_of_cell (right_half c Z)).z (overlaps (aabb_of_tri t) (aabb_of_cell (right_half c Z)) e).three)

-- ---- near a half, near the whole
reaches_more : (a b h : Interval) → IsBetween b h.low → IsBetween b h.high → intervals_meet a h ≡ true → intervals_meet a b ≡ true
reaches_more a b h l k e =
    let r = and_parts (int_le a.low h.high) (int_le h.low a.high) e in
    and_from (int_le a.low b.high) (int_le b.low a.high)
    (int_le_in a.low b.high (omega (arith, linear, k.to, int_le_out a.low h.high r.0)))
    (int_le_in b.low a.high (omega (arith, linear, l.from, int_le_out h.low a.high r.1)))

near_more : (c h : Cell) (t : Tri) → IsWithin (aabb_of_cell c) (aabb_of_cell h) → is_near h t ≡ true → is_near c t ≡ true
near_more c h t w e =
    let r = and_parts (aabbs_meet (aabb_of_tri t) (aabb_of_cell h)) (crosses (support_of t) (aabb_of_cell h)) (sym (near_is h t) ∙ e) in
    let o = overlaps (aabb_of_tri t) (aabb_of_cell h) r.0 in let b = aabb_of_cell c in let s = aabb_of_cell h in let a = aabb_of_tri t in
    near_is c t ∙ and_from (aabbs_meet a b) (crosses (support_of t) b)
    (from3 (intervals_meet a.x b.x) (intervals_meet a.y b.y) (intervals_meet a.z b.z)
    (reaches_more a.x b.x s.x w.x_low w.x_high o.one) (reaches_more a.y b.y s.y w.y_low w.y_high o.two)
    (reaches_more a.z b.z s.z w.z_low w.z_high o.three)) (crosses_more (support_of t) b s w r.1)

-- the ends of a box lie in it, and its middle does
first_in : (l : ℤ) (n : ℕ) → IsBetween (record { low = l; high = l +ℤ pos n }) l
first_in l n = record { from = omega (arith, ints); to = omega (arith, ints) }

last_in : (l : ℤ) (n : ℕ) → IsBetween (record { low = l; high = l +ℤ pos n }) (l +ℤ pos n)
last_in l n = record { from = omega (arith, ints); to = omega (arith, ints) }

middle_in : (l : ℤ) (n : ℕ) → 0 < n → IsBetween (record { low = l; high = l +ℤ pos (2 ^ n) }) (l +ℤ pos (2 ^ pred n))
middle_in l n p =
    let e = halves_end l n p in record { from = omega (arith, ints); to = omega (arith, ints, e) }

end_in : (l : ℤ) (n : ℕ) → 0 < n → IsBetween (record { low = l; high = l +ℤ pos (2 ^ n) }) (l +ℤ pos (2 ^ pred n) +ℤ pos (2 ^ pred n))
end_in l n p =
    let e = halves_end l n p in record { from = omega (arith, ints, e); to = omega (arith, ints, e) }

left_within : (c : Cell) (k : Axis) → 0 < c.log k → IsWithin (aabb_of_cell c) (aabb_of_cell (left_half c k))
left_within c k p =
    let x = first_in (low c X) (2 ^ c.log X) in let x' = last_in (low c X) (2 ^ c.log X) in
    let y = first_in (low c Y) (2 ^ c.log Y) in let y' = last_in (low c Y) (2 ^ c.log Y) in
    let z = first_in (low c Z) (2 ^ c.log Z) in let z' = last_in (low c Z) (2 ^ c.log Z) in by x x' y y' z z' k p
  where
    by : IsBetween (aabb_of_cell c).x (low c X) → IsBetween (aabb_of_cell c).x (high c X) →
        IsBetween (aabb_of_cell c).y (low c Y) → IsBetween (aabb_of_cell c).y (high c Y) →
        IsBetween (aabb_of_cell c).z (low c Z) → IsBetween (aabb_of_cell c).z (high c Z) → (k : Axis) → 0 < c.log k →
        IsWithin (aabb_of_cell c) (aabb_of_cell (left_half c k))
    by x x' y y' z z' X p =
        record { x_low = x; x_high = middle_in (low c X) (c.log X) p; y_low = y; y_high = y'; z_low = z; z_high = z' }
    by x x' y y' z z' Y p =
        record { x_low = x; x_high = x'; y_low = y; y_high = middle_in (low c Y) (c.log Y) p; z_low = z; z_high = z' }
    by x x' y y' z z' Z p =
        record { x_low = x; x_high = x'; y_low = y; y_high = y'; z_low = z; z_high = middle_in (low c Z) (c.log Z) p }

right_within : (c : Cell) (k : Axis) → 0 < c.log k → IsWithin (aabb_of_cell c) (aabb_of_cell (right_half c k))
right_within c k p =
    let x = first_in (low c X) (2 ^ c.log X) in let x' = last_in (low c X) (2 ^ c.log X) in
    let y = first_in (low c Y) (2 ^ c.log Y) in let y' = last_in (low c Y) (2 ^ c.log Y) in
    let z = first_in (low c Z) (2 ^ c.log Z) in let z' = last_in (low c Z) (2 ^ c.log Z) in by x x' y y' z z' k p
  where
    by : IsBetween (aabb_of_cell c).x (low c X) → IsBetween (aabb_of_cell c).x (high c X) →
        IsBetween (aabb_of_cell c).y (low c Y) → IsBetween (aabb_of_cell c).y (high c Y) →
        IsBetween (aabb_of_cell c).z (low c Z) → IsBetween (aabb_of_cell c).z (high c Z) → (k : Axis) → 0 < c.log k →
        IsWithin (aabb_of_cell c) (aabb_of_cell (right_half c k))
    by x x' y y' z z' X p =
        record { x_low = middle_in (low c X) (c.log X) p; x_high = end_in (low c X) (c.log X) p; y_low = y; y_high = y'; z_low = z; z_high = z' }
    by x x' y y' z z' Y p =
        record { x_low = x; x_high = x'; y_low = middle_in (low c Y) (c.log Y) p; y_high = end_in (low c Y) (c.log Y) p; z_low = z; z_high = z' }
    by x x' y y' z z' Z p =
        record { x_low = x; x_high = x'; y_low = y; y_high = y'; z_low = middle_in (low c Z) (c.log Z) p; z_high = end_in (low c Z) (c.log Z) p }

-- a triangle near the left half is near the box
pub left_near : (c : Cell) (k : Axis) (t : Tri) → 0 < c.log k → is_near (left_half c k) t ≡ true → is_near c t ≡ true
left_near c k t p = near_more c (left_half c k) t (left_within c k p)

-- a triangle near the right half is near the box
pub right_near : (c : Cell) (k : Axis) (t : Tri) → 0 < c.log k → is_near (right_half c k) t ≡ true → is_near c t ≡ true
right_near c k t p = near_more c (right_half c k) t (right_within c k p)
