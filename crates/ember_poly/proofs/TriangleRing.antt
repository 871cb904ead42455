-- The edges of a triangle's face, with its corners, are a ring.
use Rattle.std.proofs.Common.{◌≡◌, ◌≢◌, inl, refl, sym, ap, subst, ◌∙◌, ℕ, zero, suc, ◌≤◌, Bool, true, false, cond}
use Rattle.std.proofs.Common.{◌&&◌, leb, None, Some, List, All, [], ◌∷◌, map, arith, ℤ, pos, ◌*ℤ◌, ◌<ℤ◌, unsigned_abs}
use Rattle.std.proofs.lemmas.Int.{ints}
use Rattle.std.proofs.lemmas.Bool.{leb-true, and_parts}
use Rattle.std.proofs.Math.Dec.{leb-zero}
use Rattle.ember_algebra.specs.Vector.{Vector}
use Rattle.ember_algebra.specs.Vector.{dot}
use Rattle.ember_algebra.specs.Sign.{sign, is_zero}
use Rattle.ember_algebra.proofs.Laws.{linear}
use Rattle.ember_algebra.proofs.Ring.{◌⊕◌, ◌⊗◌, num, ◌≈◌, solve, cancels}
use Rattle.ember_algebra.proofs.Order.{by_sign, sign_pos, sign_neg}
use Rattle.ember_model.specs.declared.point.Axis.{Axis}
use Rattle.ember_model.specs.declared.point.Axis.TheVariants.{X, Y, Z}
use Rattle.ember_model.specs.declared.plane.Plane.{Plane}
use Rattle.ember_model.specs.declared.tri.Tri.{Tri}
use Rattle.ember_model.specs.Planes.{along, unit, main_axis, support_of}
use Rattle.ember_model.specs.Faces.{is_flat, face_of, is_inside, edges_of}
use Rattle.ember_model.specs.Owners.{spot_of_corner}
use Rattle.ember_model.specs.declared.point.Spot.{Spot}
use Rattle.ember_poly.specs.Rings.{Side, Represents, IsInsideRing}
use Rattle.ember_poly.specs.Boundaries.{tri_corners}
use Rattle.ember_poly.specs.Sides.{sides_of, OldestFirst, EachHasSideOrNoEdge, IsRing}
use Rattle.ember_poly.proofs.Triangle.{normal_of, side_along, triangle_stands}
use Rattle.ember_poly.proofs.FaceTests.{inside_out}

-- ---- the main axis
not_all_zero : (p : Plane) → (is_zero p.a && (is_zero p.b && is_zero p.c)) ≡ false → p.a ≡ pos 0 → p.b ≡ pos 0 → p.c ≡ pos 0 → ⊥
not_all_zero p e ea eb ec = by (sym e ∙ ap (λ a. is_zero a && (is_zero p.b && is_zero p.c)) ea ∙ ap (λ b. is_zero b && is_zero p.c) eb ∙ ap is_zero ec)
  where
    by : false ≡ true → ⊥
    by h = cc

no_size : (a b : ℤ) → unsigned_abs b ≤ unsigned_abs a → a ≡ pos 0 → b ≡ pos 0
no_size a b l e = omega (arith, l, e, ints)

by_tests : (p : Plane) → (p.a ≡ pos 0 → p.b ≡ pos 0 → p.c ≡ pos 0 → ⊥) → (x y : Bool) →
    (leb (unsigned_abs p.b) (unsigned_abs p.a) && leb (unsigned_abs p.c) (unsigned_abs p.a)) ≡ x →
    leb (unsigned_abs p.c) (unsigned_abs p.b) ≡ y → along p (cond x X (cond y Y Z)) ≢ pos 0
by_tests p n true y e f z =
    let h = and_parts (leb (unsigned_abs p.b) (unsigned_abs p.a)) (leb (unsigned_abs p.c) (unsigned_abs p.a)) e in
    n z (no_size p.a p.b (leb-true _ _ h.0) z) (no_size p.a p.c (leb-true _ _ h.1) z)
by_tests p n false true e f z =
    let c : p.c ≡ pos 0 = no_size p.b p.c (leb-true _ _ f) z in
    let l : (leb (unsigned_abs p.b) (unsigned_abs p.a) && leb (unsigned_abs p.c) (unsigned_abs p.a)) ≡ true = rw (z, c, leb-zero (unsigned_abs p.a)) refl in
    differ (sym l ∙ e)
  where
    differ : true ≡ false → ⊥
    differ h = cc
by_tests p n false false e f z =
    let l : leb (unsigned_abs p.c) (unsigned_abs p.b) ≡ true = rw z (leb-zero (unsigned_abs p.b)) in differ (sym l ∙ f)
  where
    differ : true ≡ false → ⊥
    differ h = cc

main_entry : (p : Plane) → (is_zero p.a && (is_zero p.b && is_zero p.c)) ≡ false → along p (main_axis p) ≢ pos 0
main_entry p e = by_tests p (not_all_zero p e) _ _ refl refl

sign_times : (a : ℤ) → a ≢ pos 0 → pos 0 <ℤ (sign a *ℤ a)
sign_times a n =
    by_sign a (λ p. rw (sign_pos p) (omega (arith, linear, p))) (λ z. absurd (n z)) (λ p. rw (sign_neg p) (omega (arith, linear, p)))

dot_unit : (v : Vector) (d : ℤ) (k : Axis) → dot v (unit k) ≡ along (record { a = v.x; b = v.y; c = v.z; d = d }) k
dot_unit v d X = solve 3 (λ x y z. x ⊗ num (pos 1) ⊕ y ⊗ num (pos 0) ⊕ z ⊗ num (pos 0) ≈ x) cancels v.x v.y v.z
dot_unit v d Y = solve 3 (λ x y z. x ⊗ num (pos 0) ⊕ y ⊗ num (pos 1) ⊕ z ⊗ num (pos 0) ≈ y) cancels v.x v.y v.z
dot_unit v d Z = solve 3 (λ x y z. x ⊗ num (pos 0) ⊕ y ⊗ num (pos 0) ⊕ z ⊗ num (pos 1) ≈ z) cancels v.x v.y v.z

-- the triangle's normal points along its main axis as the sign says
faces_axis : (t : Tri) → is_flat t ≡ false → pos 0 <ℤ
    (sign (along (support_of t) (main_axis (support_of t))) *ℤ dot (normal_of t.a t.b t.c)
    (unit (main_axis (support_of t))))
unfolding is_flat
faces_axis t e =
    rw (dot_unit (normal_of t.a t.b t.c) (support_of t).d (main_axis (support_of t)))
    (sign_times (along (support_of t) (main_axis (support_of t))) (main_entry (support_of t) e))

-- ---- the ring
abbrev pub tri_sides : Tri → List Side
tri_sides t =
    let k = main_axis (support_of t) in let s = sign (along (support_of t) k) in
    side_along s (unit k) t.a t.b 0 ∷ side_along s (unit k) t.b t.c 1 ∷ side_along s (unit k) t.c t.a 2 ∷ []

-- the ring of a triangle that isn't flat is its face
pub stands : (t : Tri) → is_flat t ≡ false → Represents (support_of t) (edges_of t) (tri_sides t)
stands t e =
    let k = main_axis (support_of t) in
    triangle_stands (sign (along (support_of t) k)) (unit k) t.a t.b t.c (faces_axis t e)

-- each edge plane of a triangle is that of a side
pub counted : (t : Tri) → EachHasSideOrNoEdge (support_of t) (edges_of t) (tri_sides t)
counted t zero h e = inl (record { at = 0; side = _; here = refl; plane_index = refl })
counted t (suc zero) h e = inl (record { at = 1; side = _; here = refl; plane_index = refl })
counted t (suc (suc zero)) h e = inl (record { at = 2; side = _; here = refl; plane_index = refl })
counted t (suc (suc (suc i))) h e = absurd (none e)
  where
    none : None ≡ Some h → ⊥
    none e = cc

-- a list of three corners
record Three {M : Type 0} (spot : M → Spot) (ms : List M) (a b c : Spot) : Type 0 where
  u : M
  v : M
  w : M
  is : ms ≡ u ∷ v ∷ w ∷ []
  at_u : spot u ≡ a
  at_v : spot v ≡ b
  at_w : spot w ≡ c

three : {M : Type 0} (spot : M → Spot) (ms : List M) (a b c : Spot) → map spot ms ≡ a ∷ b ∷ c ∷ [] → Three spot ms a b c
three spot [] a b c e = cc
three spot (u ∷ []) a b c e = cc
three spot (u ∷ v ∷ []) a b c e = cc
three spot (u ∷ v ∷ w ∷ []) a b c e =
    record { u = u; v = v; w = w; is = refl; at_u = first e; at_v = second e; at_w = third e }
  where
    first : {x y z : Spot} → x ∷ y ∷ z ∷ [] ≡ a ∷ b ∷ c ∷ [] → x ≡ a
    first q = cc

    second : {x y z : Spot} → x ∷ y ∷ z ∷ [] ≡ a ∷ b ∷ c ∷ [] → y ≡ b
    second q = cc

    third : {x y z : Spot} → x ∷ y ∷ z ∷ [] ≡ a ∷ b ∷ c ∷ [] → z ≡ c
    third q = cc
three spot (u ∷ v ∷ w ∷ x ∷ ms) a b c e = cc

module _ {M : Type 0} (spot : M → Spot) where
  abbrev places : M → M → M → List M
  places u v w = u ∷ v ∷ w ∷ []

  same_sides : (t : Tri) (u v w : M) → spot u ≡ spot_of_corner t.a → spot v ≡ spot_of_corner t.b →
      spot w ≡ spot_of_corner t.c → sides_of spot (edges_of t) (places u v w) (0 ∷ 1 ∷ 2 ∷ []) ≡ tri_sides t
  same_sides t u v w eu ev ew =
      let k = main_axis (support_of t) in let s = sign (along (support_of t) k) in
      λ i. record { plane = (side_along s (unit k) t.a t.b 0).plane; corner = eu i; plane_index = 0 }
      ∷ record { plane = (side_along s (unit k) t.b t.c 1).plane; corner = ev i; plane_index = 1 }
      ∷ record { plane = (side_along s (unit k) t.c t.a 2).plane; corner = ew i; plane_index = 2 } ∷ []

  ring_of : {IsPlane : Plane → Type 0} (t : Tri) (u v w : M) → is_flat t ≡ false → spot u ≡ spot_of_corner t.a →
      spot v ≡ spot_of_corner t.b → spot w ≡ spot_of_corner t.c → IsPlane (support_of t) →
      All IsPlane (edges_of t) → IsRing IsPlane spot (support_of t) (edges_of t) (edges_of t) (places u v w) (0 ∷ 1 ∷ 2 ∷ [])
  ring_of {IsPlane} t u v w e eu ev ew vn vs =
      let q = sym (same_sides t u v w eu ev ew) in
      record {
        represents = subst (λ xs. Represents (support_of t) (edges_of t) xs) q (stands t e);
        oldest =
            subst (λ xs. OldestFirst xs) q (omega arith, (omega arith, tt));
        counted =
            subst (λ xs. EachHasSideOrNoEdge (support_of t) (edges_of t) xs) q (counted t);
        corners = refl;
        plane_indices =
            refl;
        support = vn;
        planes = vs;
      }

  -- from what the code holds
  pub tri_ring : {IsPlane : Plane → Type 0} (t : Tri) (n : Plane) {fs gs es : List Plane} {ms : List M} {bs : List ℕ} → is_flat t ≡ false →
      n ≡ support_of t → IsPlane n → fs ≡ edges_of t → All IsPlane fs → gs ≡ fs → es ≡ fs →
      map spot ms ≡ tri_corners t → bs ≡ 0 ∷ 1 ∷ 2 ∷ [] → IsRing IsPlane spot n gs es ms bs
  tri_ring {IsPlane} t n {fs} {gs} {es} {ms} {bs} e en vn ef vs eg ee em eb =
      let k = three spot ms (spot_of_corner t.a) (spot_of_corner t.b) (spot_of_corner t.c) em in
      let r = ring_of t k.u k.v k.w e k.at_u k.at_v k.at_w (subst (λ p. IsPlane p) en vn) (subst (λ ps. All IsPlane ps) ef vs) in
      rw (en, eg, ee, ef, k.is, eb) r

-- ---- the test of the normal
-- the test of the support plane's normal is whether the triangle is flat
pub flat_is : (t : Tri) (n : Plane) (b : Bool) → n ≡ support_of t → b ≡ (is_zero n.a && (is_zero n.b && is_zero n.c)) → is_flat t ≡ b
unfolding is_flat
flat_is t n b en e =
    ap (λ (p : Plane). is_zero p.a && (is_zero p.b && is_zero p.c)) (sym en) ∙ sym e

-- the support plane with the three edge planes is the face of a triangle that isn't flat
pub face_is : (t : Tri) (n : Plane) (gs : List Plane) → is_flat t ≡ false → n ≡ support_of t → gs ≡ edges_of t →
    Some (record { support = n; edges = gs }) ≡ cond (is_flat t) None (Some (face_of t))
unfolding face_of
face_is t n gs e en eg =
    (λ i. Some (record { support = en i; edges = eg i })) ∙ sym (ap (λ b. cond b None (Some (face_of t))) e)

-- ---- of a triangle that is not flat
-- the support plane with the three edge planes is the triangle's face
pub tri_face : (t : Tri) (n : Plane) (gs : List Plane) → n ≡ support_of t → gs ≡ edges_of t → record { support = n; edges = gs } ≡ face_of t
unfolding face_of
tri_face t n gs en eg = λ i. record { support = en i; edges = eg i }

-- a point inside the face is inside the ring
pub inside_ring : (t : Tri) (v : Spot) → is_inside (face_of t) v ≡ true → IsInsideRing (support_of t) (tri_sides t) v
unfolding face_of
inside_ring t v e =
    let k = inside_out (face_of t) v e in record { flat = k.flat; weight = k.weight; within = k.within }
