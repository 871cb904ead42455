-- The vertices of a path are clear of all triangles, and lie in the box.
use Rattle.std.proofs.Common.{◌≡◌, sym, ap, subst, ◌∙◌, le_refl, arith, ℕ, ◌*◌, ◌^◌, ◌<◌, ◌≤◌, List, [], ◌∷◌, All, ℤ, pos, ◌+ℤ◌, ◌-ℤ◌, ◌*ℤ◌, ◌<ℤ◌, ◌≤ℤ◌}
use Rattle.std.specs.List.{AllByRecursion}
use Rattle.std.proofs.lemmas.List.Elements.{All-head, All-tail}
use Rattle.std.proofs.lemmas.Nat.{pow_pos}
use borrow.Author.Differences.{ints}
use Rattle.ember_algebra.specs.Vector.{Vector}
use Rattle.ember_algebra.specs.Size.{Small}
use Rattle.ember_algebra.specs.declared.Sign.{Sign}
use Rattle.ember_algebra.specs.declared.Sign.TheVariants.{Zero}
use Rattle.ember_algebra.specs.Sign.{sgn, is_nil}
use Rattle.ember_algebra.proofs.Laws.{linear, one-*ℤ}
use Rattle.ember_algebra.proofs.Order.{mul_le, pos_mul}
use Rattle.ember_algebra.proofs.Ring.{◌⊗◌, ◌≈◌, solve, cancels}
use Rattle.ember_model.specs.declared.point.Spot.{Spot}
use Rattle.ember_model.specs.declared.point.Axis.{Axis}
use Rattle.ember_model.specs.declared.point.Axis.TheVariants.{X, Y, Z}
use Rattle.ember_model.specs.declared.point.Corner.{Corner}
use Rattle.ember_model.specs.declared.plane.Plane.{Plane}
use Rattle.ember_model.specs.declared.tri.Tri.{Tri}
use Rattle.ember_model.specs.Planes.{unit, value_at, along, support_of, edge_through, HasNoNormal}
use Rattle.ember_model.specs.Within.{IsCornerWithin, IsTriWithin, IsSupportWithin, normal_limit}
use Rattle.ember_model.specs.Clear.{IsClearOf, AreClear}
use Rattle.ember_model.specs.Meshes.{faces_of}
use Rattle.ember_model.proofs.SignTests.{zero_out}
use Rattle.ember_model.proofs.PlaneSizes.{support_within, edge_within}
use Rattle.ember_law.proofs.Generic.{IsOff}
use Rattle.ember_law.proofs.GenericClear.{off_clear, clear_faces}
use Rattle.ember_box.specs.declared.aabb.Interval.{Interval}
use Rattle.ember_box.specs.Boxes.{Cell, low, high}
use Rattle.ember_box.specs.Aabbs.{interval_between}
use Rattle.ember_box.specs.Reference.{reference_beside}
use Rattle.ember_ref.proofs.ReferenceSigns.{sign_beside_is, level_from, both_zero}
use Rattle.ember_ref.specs.ClosedBoxes.{HasPoint, IsAcross}
use Rattle.ember_trace.proofs.PathVertices.{with_along}
use Rattle.ember_trace.proofs.VertexSides.{IsClose, AreStops, stop_at_start, stop_after_first}
use Rattle.ember_trace.proofs.VertexSides.{stop_after_second, start_sign, first_sign, second_sign}
use Rattle.ember_trace.proofs.SegmentSigns.{edge_support, start_above}
use Rattle.ember_trace.proofs.SegmentCrossings.{IsEnd, start_weight}

-- a point that is on no plane of the size of a triangle within m but those without a normal
abbrev pub IsGeneric : ℕ → Spot → Type 0
IsGeneric m p = (h : Plane) → IsSupportWithin m h → value_at h p ≡ pos 0 → HasNoNormal h

line_within : {m : ℕ} (u v : Corner) (k : Axis) → IsCornerWithin m u → IsCornerWithin m v → IsSupportWithin m (edge_through u v (unit k))
line_within {m} u v k iu iv =
    let h = edge_through u v (unit k) in
    let s = edge_support (edge_within m u v k (pos 1) iu iv (record { small = le_refl 1 })) in
    record {
      a = subst (Small (normal_limit m)) (one-*ℤ h.a) s.a;
      b = subst (Small (normal_limit m)) (one-*ℤ h.b) s.b;
      c = subst (Small (normal_limit m)) (one-*ℤ h.c) s.c;
      d = subst (Small (12 * (m * (m * m)))) (one-*ℤ h.d) s.d;
    }

generic_of : {m : ℕ} (p : Spot) (t : Tri) → pos 0 <ℤ p.w → IsGeneric m p → IsTriWithin m t → IsClearOf t p
generic_of {m} p t w g i = off_clear p t (off X) (off Y) (off Z)
  where
    off : (k : Axis) → IsOff (unit k) p t
    off k =
        record {
          weight = w;
          plane = g (support_of t) (support_within m t i);
          first =
              g _ (line_within t.a t.b k i.a i.b);
          second = g _ (line_within t.b t.c k i.b i.c);
          third =
              g _ (line_within t.c t.a k i.c i.a);
        }

-- a generic point is clear of all triangles within m
pub generic_clear : {m : ℕ} (p : Spot) (ts : List Tri) → pos 0 <ℤ p.w → IsGeneric m p → All (IsTriWithin m) ts → AreClear (faces_of ts) p
generic_clear {m} p ts w g i = clear_faces p ts (each ts i)
  where
    each : (ts : List Tri) → All (IsTriWithin m) ts → AllByRecursion (λ t. IsClearOf t p) ts
    each [] i = tt
    each (t ∷ ts) i = (generic_of p t w g (All-head (IsTriWithin m) t ts i), each ts (All-tail (IsTriWithin m) t ts i))

reference_level : {m f : ℕ} (lo : Vector) (h : Plane) → normal_limit m < f → IsSupportWithin m h →
    sgn (value_at h (reference_beside f lo)) ≡ Zero → HasNoNormal h
reference_level {m} {f} lo h tells i e =
    level_from h lo (sym (sign_beside_is {m = normal_limit m} f h lo (record { a = i.a; b = i.b; c = i.c }) tells) ∙ e)

-- ---- points of the box
scaled_across : (s : Interval) (k x w : ℤ) → pos 0 ≤ℤ k → IsAcross s x w → IsAcross s (k *ℤ x) (k *ℤ w)
scaled_across s k x w z i =
    let e = solve 3 (λ l k w. l ⊗ (k ⊗ w) ≈ k ⊗ (l ⊗ w)) cancels s.low k w in let f = solve 3 (λ l k w. l ⊗ (k ⊗ w) ≈ k ⊗ (l ⊗ w)) cancels s.high k w in
    record { from = omega (arith, linear, mul_le z i.from, e); to = omega (arith, linear, mul_le z i.to, f) }

replaced_across : (s : Interval) (x y v w : ℤ) → pos 0 ≤ℤ v → IsAcross s y w → IsAcross s (w *ℤ x +ℤ (v *ℤ y -ℤ w *ℤ x)) (w *ℤ v)
replaced_across s x y v w z i =
    let e = solve 3 (λ l k w. l ⊗ (w ⊗ k) ≈ k ⊗ (l ⊗ w)) cancels s.low v w in let f = solve 3 (λ l k w. l ⊗ (w ⊗ k) ≈ k ⊗ (l ⊗ w)) cancels s.high v w in
    record { from = omega (arith, linear, mul_le z i.from, e); to = omega (arith, linear, mul_le z i.to, f) }

-- a box that contains two points contains the first with a coordinate of the second
pub has_with : (c : Cell) (a : Axis) (u v : Spot) → HasPoint c u → HasPoint c v → HasPoint c (with_along a u v)
has_with c a u v f g = by a
  where
    zu : pos 0 ≤ℤ u.w
    zu = let l = f.weight in omega (arith, linear, l)

    zv : pos 0 ≤ℤ v.w
    zv = let l = g.weight in omega (arith, linear, l)

    w : pos 0 <ℤ (v.w *ℤ u.w)
    w = pos_mul g.weight f.weight

    b : Cell → Axis → Interval
    b c k = interval_between (low c k) (high c k)

    by : (a : Axis) → HasPoint c (with_along a u v)
    by X = record {
      weight = w;
      on_x = replaced_across (b c X) u.x v.x u.w v.w zu g.on_x;
      on_y =
          scaled_across (b c Y) v.w u.y u.w zv f.on_y;
      on_z = scaled_across (b c Z) v.w u.z u.w zv f.on_z;
    }
    by Y = record {
      weight = w;
      on_x = scaled_across (b c X) v.w u.x u.w zv f.on_x;
      on_y =
          replaced_across (b c Y) u.y v.y u.w v.w zu g.on_y;
      on_z = scaled_across (b c Z) v.w u.z u.w zv f.on_z;
    }
    by Z = record {
      weight = w;
      on_x = scaled_across (b c X) v.w u.x u.w zv f.on_x;
      on_y =
          scaled_across (b c Y) v.w u.y u.w zv f.on_y;
      on_z = replaced_across (b c Z) u.z v.z u.w v.w zu g.on_z;
    }

-- a box contains the start of its paths
pub has_start : (c : Cell) (n : ℕ) → 2 ≤ n → HasPoint c (stop_at_start c.lo n)
has_start c n l =
    let w = start_weight c.lo n l in let x = start_above c.lo n X l in let y = start_above c.lo n Y l in let z = start_above c.lo n Z l in
    record {
      weight = w;
      on_x = across (c.lo.x) (c.log X) _ _ w x.from x.to;
      on_y =
          across c.lo.y (c.log Y) _ _ w y.from y.to;
      on_z = across c.lo.z (c.log Z) _ _ w z.from z.to;
    }
  where
    across : (l : ℤ) (n : ℕ) (y w : ℤ) → pos 0 <ℤ w → (l *ℤ w) <ℤ y → y <ℤ ((l +ℤ pos 1) *ℤ w) → IsAcross (interval_between l (l +ℤ pos (2 ^ n))) y w
    across l n y w p f t =
        let h : (l +ℤ pos 1) ≤ℤ (l +ℤ pos (2 ^ n)) = omega (arith, ints, pow_pos n) in let z : pos 0 ≤ℤ w = omega (arith, linear, p) in let m = mul_le z h in
        let e = solve 2 (λ a w. a ⊗ w ≈ w ⊗ a) cancels (l +ℤ pos 1) w in let g = solve 2 (λ a w. a ⊗ w ≈ w ⊗ a) cancels (l +ℤ pos (2 ^ n)) w in
        record { from = omega (arith, linear, f); to = omega (arith, linear, t, m, e, g) }

-- ---- the vertices
module _ (m f : ℕ) (k : Axis) (lo : Vector) (a b c : Spot) (q : Spot) (n : ℕ) (s : AreStops m f k lo a b c q n) where
  -- the start of a path is generic
  pub start_generic : IsGeneric m (stop_at_start lo n)
  start_generic h i z = reference_level lo h s.tells i (sym (start_sign m f k lo a b c q n s h i) ∙ ap sgn z)

  -- the end of the first segment is generic
  pub first_generic : IsGeneric m (stop_after_first k lo q n)
  first_generic h i z =
      reference_level lo h s.tells i (both_zero _ _ (sym (first_sign m f k lo a b c q n s h i) ∙ ap sgn z)).1

  -- and so is the end of the second
  pub second_generic : IsGeneric m (stop_after_second k lo q n)
  second_generic h i z =
      reference_level lo h s.tells i (both_zero _ _ (sym (second_sign m f k lo a b c q n s h i) ∙ ap sgn z)).1

-- the end of a path close to a region's point is generic
pub end_generic : {m : ℕ} (k : Axis) (a b c : Spot) (q : Spot) → IsClose m k a b c q → (turn : Sign → Sign) (e : Spot) → IsEnd m k a b c turn e → IsGeneric m e
end_generic k a b c q close turn e end h i z =
    let p = both_zero _ _ (sym (end.side h i) ∙ ap sgn z) in
    close.apart h p.0 (zero_out (along h k) (ap is_nil (end.level_out (sgn (along h k)) p.1)))
