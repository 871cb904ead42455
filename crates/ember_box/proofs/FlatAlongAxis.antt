-- Triangles that lie across an axis: they are near each box that their bounding box meets.
use Rattle.std.proofs.Common.{◌≡◌, ⊎_elim, sym, subst, arith, Bool, true, false, ◌||◌, ◌⊎◌, inl, inr, refl, ℤ, ◌+ℤ◌, ◌*ℤ◌, int_le}
use Rattle.std.specs.Int.{int_min, int_max}
use Rattle.std.proofs.lemmas.Int.{clamps}
use Rattle.std.proofs.lemmas.Bool.{and_parts}
use borrow.Author.Differences.{ints}
use Rattle.ember_algebra.proofs.Ring.{◌⊕◌, ◌⊖◌, ◌⊗◌, ◌≈◌, solve, cancels}
use Rattle.ember_algebra.proofs.Numbers.{int_le_out}
use Rattle.ember_model.specs.declared.tri.Tri.{Tri}
use Rattle.ember_model.specs.declared.point.Axis.TheVariants.{X, Y, Z}
use Rattle.ember_model.specs.Planes.{support_of}
use Rattle.ember_box.specs.declared.aabb.Interval.{Interval}
use Rattle.ember_box.specs.Boxes.{Cell, low}
use Rattle.ember_box.specs.Aabbs.{aabb_of_cell, interval_over, aabb_of_tri, intervals_meet, aabbs_meet, is_point, has_zero_extent, crosses}
use Rattle.ember_box.proofs.Orders.{all3}
use Rattle.ember_box.proofs.Crossing.{IsBetween, corner_in, crosses_at}

-- ---- the plane
module _ (t : Tri) where
  abbrev moved : ℤ → ℤ → ℤ → ℤ → ℤ → ℤ → Tri
  moved bx by bz cx cy cz =
      record { a = t.a; b = record { x = bx; y = by; z = bz }; c = record { x = cx; y = cy; z = cz }; mesh = t.mesh }

  -- it is 0 at the point
  abbrev Holds : Tri → ℤ → ℤ → ℤ → Type 0
  Holds u x y z = (support_of u).a *ℤ x +ℤ (support_of u).b *ℤ y +ℤ (support_of u).c *ℤ z ≡ (support_of u).d

  across_x : (y z : ℤ) → t.b.x ≡ t.a.x → t.c.x ≡ t.a.x → Holds t t.a.x y z
  across_x y z e f =
      subst (λ (k : ℤ). Holds (moved k t.b.y t.b.z t.c.x t.c.y t.c.z) t.a.x y z) (sym e)
      (subst (λ (k : ℤ). Holds (moved t.a.x t.b.y t.b.z k t.c.y t.c.z) t.a.x y z) (sym f)
      (same t.a.x t.a.y t.a.z t.b.y t.b.z t.c.y t.c.z y z))
    where
      same : (ax ay az by bz cy cz y z : ℤ) → Holds
          (record {
            a = record { x = ax; y = ay; z = az };
            b = record { x = ax; y = by; z = bz };
            c =
                record { x = ax; y = cy; z = cz };
            mesh = t.mesh;
          }) ax y z
      same =
          solve 9 (λ ax ay az by bz cy cz y z. ((by ⊖ ay) ⊗ (cz ⊖ az) ⊖ (bz ⊖ az) ⊗ (cy ⊖ ay)) ⊗ ax ⊕
          ((bz ⊖ az) ⊗ (ax ⊖ ax) ⊖ (ax ⊖ ax) ⊗ (cz ⊖ az)) ⊗ y ⊕ ((ax ⊖ ax) ⊗ (cy ⊖ ay) ⊖ (by ⊖ ay) ⊗ (ax ⊖ ax)) ⊗ z ≈
          ((by ⊖ ay) ⊗ (cz ⊖ az) ⊖ (bz ⊖ az) ⊗ (cy ⊖ ay)) ⊗ ax ⊕ ((bz ⊖ az) ⊗ (ax ⊖ ax) ⊖ (ax ⊖ ax) ⊗ (cz ⊖ az)) ⊗ ay
          ⊕ ((ax ⊖ ax) ⊗ (cy ⊖ ay) ⊖ (by ⊖ ay) ⊗ (ax ⊖ ax)) ⊗ az) cancels

  across_y : (x z : ℤ) → t.b.y ≡ t.a.y → t.c.y ≡ t.a.y → Holds t x t.a.y z
  across_y x z e f =
      subst (λ (k : ℤ). Holds (moved t.b.x k t.b.z t.c.x t.c.y t.c.z) x t.a.y z) (sym e)
      (subst (λ (k : ℤ). Holds (moved t.b.x t.a.y t.b.z t.c.x k t.c.z) x t.a.y z) (sym f)
      (same t.a.x t.a.y t.a.z t.b.x t.b.z t.c.x t.c.z x z))
    where
      same : (ax ay az bx bz cx cz x z : ℤ) → Holds
          (record {
            a = record { x = ax; y = ay; z = az };
            b = record { x = bx; y = ay; z = bz };
            c =
                record { x = cx; y = ay; z = cz };
            mesh = t.mesh;
          }) x ay z
      same =
          solve 9 (λ ax ay az bx bz cx cz x z. ((ay ⊖ ay) ⊗ (cz ⊖ az) ⊖ (bz ⊖ az) ⊗ (ay ⊖ ay)) ⊗ x ⊕
          ((bz ⊖ az) ⊗ (cx ⊖ ax) ⊖ (bx ⊖ ax) ⊗ (cz ⊖ az)) ⊗ ay ⊕ ((bx ⊖ ax) ⊗ (ay ⊖ ay) ⊖ (ay ⊖ ay) ⊗ (cx ⊖ ax)) ⊗ z ≈
          ((ay ⊖ ay) ⊗ (cz ⊖ az) ⊖ (bz ⊖ az) ⊗ (ay ⊖ ay)) ⊗ ax ⊕ ((bz ⊖ az) ⊗ (cx ⊖ ax) ⊖ (bx ⊖ ax) ⊗ (cz ⊖ az)) ⊗ ay
          ⊕ ((bx ⊖ ax) ⊗ (ay ⊖ ay) ⊖ (ay ⊖ ay) ⊗ (cx ⊖ ax)) ⊗ az) cancels

  across_z : (x y : ℤ) → t.b.z ≡ t.a.z → t.c.z ≡ t.a.z → Holds t x y t.a.z
  across_z x y e f =
      subst (λ (k : ℤ). Holds (moved t.b.x t.b.y k t.c.x t.c.y t.c.z) x y t.a.z) (sym e)
      (subst (λ (k : ℤ). Holds (moved t.b.x t.b.y t.a.z t.c.x t.c.y k) x y t.a.z) (sym f)
      (same t.a.x t.a.y t.a.z t.b.x t.b.y t.c.x t.c.y x y))
    where
      same : (ax ay az bx by cx cy x y : ℤ) → Holds
          (record {
            a = record { x = ax; y = ay; z = az };
            b = record { x = bx; y = by; z = az };
            c =
                record { x = cx; y = cy; z = az };
            mesh = t.mesh;
          }) x y az
      same =
          solve 9 (λ ax ay az bx by cx cy x y. ((by ⊖ ay) ⊗ (az ⊖ az) ⊖ (az ⊖ az) ⊗ (cy ⊖ ay)) ⊗ x ⊕
          ((az ⊖ az) ⊗ (cx ⊖ ax) ⊖ (bx ⊖ ax) ⊗ (az ⊖ az)) ⊗ y ⊕ ((bx ⊖ ax) ⊗ (cy ⊖ ay) ⊖ (by ⊖ ay) ⊗ (cx ⊖ ax)) ⊗ az ≈
          ((by ⊖ ay) ⊗ (az ⊖ az) ⊖ (az ⊖ az) ⊗ (cy ⊖ ay)) ⊗ ax ⊕ ((az ⊖ az) ⊗ (cx ⊖ ax) ⊖ (bx ⊖ ax) ⊗ (az ⊖ az)) ⊗ ay
          ⊕ ((bx ⊖ ax) ⊗ (cy ⊖ ay) ⊖ (by ⊖ ay) ⊗ (cx ⊖ ax)) ⊗ az) cancels

-- ---- one axis
record IsAt (x y z : ℤ) (s : Interval) : Type 0 where
  pub between : IsBetween s x
  pub second : y ≡ x
  pub third : z ≡ x

is_at : (x y z : ℤ) (s : Interval) → is_point (interval_over x y z) ≡ true → intervals_meet (interval_over x y z) s ≡ true → IsAt x y z s
is_at x y z s p r =
    let q = and_parts (int_le (int_min (int_min x y) z) s.high) (int_le s.low (int_max (int_max x y) z)) r in
    let l = int_le_out (int_min (int_min x y) z) s.high q.0 in let h = int_le_out s.low (int_max (int_max x y) z) q.1 in
    let k = int_le_out (int_max (int_max x y) z) (int_min (int_min x y) z) p in
    record {
      between = record { from = omega (arith, ints, clamps, h, k); to = omega (arith, ints, clamps, l, k) };
      second = omega (arith, ints, clamps, k);
      third = omega (arith, ints, clamps, k);
    }

one_of : (p q r : Bool) → p || q || r ≡ true → (p ≡ true) ⊎ ((q ≡ true) ⊎ (r ≡ true))
one_of true q r e = inl refl
one_of false true r e = inr (inl refl)
one_of false false true e = inr (inr refl)
one_of false false false e = cc

-- a triangle in a plane across an axis whose bounding box meets a box crosses the box by its plane
pub zero_extent_crossed : (c : Cell) (t : Tri) → has_zero_extent (aabb_of_tri t) ≡ true →
    aabbs_meet (aabb_of_tri t) (aabb_of_cell c) ≡ true → crosses (support_of t) (aabb_of_cell c) ≡ true
zero_extent_crossed c t l o =
    let b = aabb_of_cell c in let p = support_of t in let w = corner_in c false false false in
    let r = all3 (intervals_meet (aabb_of_tri t).x b.x) (intervals_meet (aabb_of_tri t).y b.y) (intervals_meet (aabb_of_tri t).z b.z) o in
    ⊎_elim (λ e. (let i = is_at t.a.x t.b.x t.c.x b.x e r.one in
    crosses_at p b t.a.x (low c Y) (low c Z) (record { on_x = i.between; on_y = w.on_y; on_z = w.on_z })
    (across_x t (low c Y) (low c Z) i.second i.third)))
    (λ f. ⊎_elim (λ e. (let i = is_at t.a.y t.b.y t.c.y b.y e r.two in
    crosses_at p b (low c X) t.a.y (low c Z) (record { on_x = w.on_x; on_y = i.between; on_z = w.on_z })
    (across_y t (low c X) (low c Z) i.second i.third)))
    (λ e. (let i = is_at t.a.z t.b.z t.c.z b.z e r.three in
    crosses_at p b (low c X) (low c Y) t.a.z (record { on_x = w.on_x; on_y = w.on_y; on_z = i.between })
    (across_z t (low c X) (low c Y) i.second i.third))) f)
    (one_of (is_point (aabb_of_tri t).x) (is_point (aabb_of_tri t).y) (is_point (aabb_of_tri t).z) l)
