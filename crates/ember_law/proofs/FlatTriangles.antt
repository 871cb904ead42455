-- Flat triangles: their support plane is 0 everywhere, and nothing crosses them. So sums over the
-- faces of triangles are sums over all triangles.
use Rattle.std.proofs.Common.{◌≡◌, ◌⊎◌, inl, inr, refl, sym, ap, ◌∙◌, arith, Bool, true, false, not, cond, ◌&&◌, List, [], ◌∷◌, ℤ, pos, ◌+ℤ◌, ◌-ℤ◌, ◌*ℤ◌}
use Rattle.std.proofs.lemmas.Bool.{and_parts}
use Rattle.ember_algebra.specs.Vector.{Vector, dot, cross, det, normal}
use Rattle.ember_algebra.specs.declared.Sign.{Sign}
use Rattle.ember_algebra.specs.Sign.{sgn, is_zero}
use Rattle.ember_algebra.specs.Sums.{total}
use Rattle.ember_algebra.proofs.Laws.{linear}
use Rattle.ember_algebra.proofs.Ring.{◌⊕◌, ◌⊖◌, ◌⊗◌, ◌≈◌, solve, cancels}
use Rattle.ember_algebra.proofs.Vectors.{vector, tuple, identity, normalE}
use Rattle.ember_algebra.proofs.Identities.{dot_zero}
use Rattle.ember_algebra.proofs.Flat.{Flat}
use Rattle.ember_algebra.proofs.Quadrant.{crossing as crossing_by_signs}
use Rattle.ember_algebra.proofs.Sums.{total-map, total-filter, total_same}
use Rattle.ember_model.specs.declared.tri.Tri.{Tri}
use Rattle.ember_model.specs.declared.point.Spot.{Spot}
use Rattle.ember_model.specs.declared.point.Axis.{Axis}
use Rattle.ember_model.specs.declared.point.Axis.TheVariants.{X, Y, Z}
use Rattle.ember_model.specs.declared.face.Face.{Face}
use Rattle.ember_model.specs.Planes.{vector_of, value_at, along, support_of}
use Rattle.ember_model.specs.Faces.{is_flat, face_of, crossing, leg}
use Rattle.ember_model.specs.Meshes.{faces_of}
use Rattle.ember_model.proofs.SignTests.{zero_out, zero_scaled, zero_times, negative_not}
use Rattle.ember_model.proofs.PlaneValues.{seen, tuple_of, seenE, supportE}
use Rattle.ember_model.proofs.Hits.{crossing_off}
use Rattle.ember_model.proofs.Legs.{leg_off}
use Rattle.ember_model.proofs.SeenCrossings.{seen_crossing, no_slope}

pub record IsFlat (t : Tri) : Type 0 where
  pub a : (support_of t).a ≡ pos 0
  pub b : (support_of t).b ≡ pos 0
  pub c : (support_of t).c ≡ pos 0

-- a triangle that the test takes to be flat is flat
pub flat_out : (t : Tri) → is_flat t ≡ true → IsFlat t
unfolding is_flat
flat_out t e =
    let n = support_of t in
    let p = and_parts (is_zero n.a) (is_zero n.b && is_zero n.c) e in let q = and_parts (is_zero n.b) (is_zero n.c) p.1 in
    record { a = zero_out n.a p.0; b = zero_out n.b q.0; c = zero_out n.c q.1 }

-- the test answers true of a flat triangle
pub flat_in : (t : Tri) → IsFlat t → is_flat t ≡ true
unfolding is_flat
flat_in t f = let a = ap is_zero f.a in let b = ap is_zero f.b in let c = ap is_zero f.c in λ i. a i && (b i && c i)

-- the test of flat triangles answers true or false
pub flat_case : (t : Tri) → (is_flat t ≡ true) ⊎ (is_flat t ≡ false)
flat_case t = by (is_flat t) refl
  where
    by : (b : Bool) → is_flat t ≡ b → (is_flat t ≡ true) ⊎ (is_flat t ≡ false)
    by true e = inl e
    by false e = inr e

-- the normal of a flat triangle has no entries
pub flat_along : (t : Tri) (a : Axis) → IsFlat t → along (support_of t) a ≡ pos 0
flat_along t X f = f.a
flat_along t Y f = f.b
flat_along t Z f = f.c

flat_value : (t : Tri) (p : Spot) → IsFlat t → value_at (support_of t) p ≡ pos 0
flat_value t p f =
    let n = support_of t in
    let x = zero_times n.a (p.x -ℤ t.a.x *ℤ p.w) f.a in
    let y = zero_times n.b (p.y -ℤ t.a.y *ℤ p.w) f.b in
    let z = zero_times n.c (p.z -ℤ t.a.z *ℤ p.w) f.c in
    solve 10 (λ a b c u v r x y z w. a ⊗ x ⊕ b ⊗ y ⊕ c ⊗ z ⊖ (a ⊗ u ⊕ b ⊗ v ⊕ c ⊗ r) ⊗ w ≈ a ⊗ (x ⊖ u ⊗ w) ⊕ b ⊗
    (y ⊖ v ⊗ w) ⊕ c ⊗ (z ⊖ r ⊗ w)) cancels n.a n.b n.c t.a.x t.a.y t.a.z p.x p.y p.z p.w ∙ (λ i. x i +ℤ y i +ℤ z i)

-- ---- rays and segments
-- nothing crosses a flat triangle
pub flat_crossing : (a : Axis) (p : Spot) (t : Tri) → IsFlat t → crossing (face_of t) a p ≡ pos 0
unfolding face_of
flat_crossing a p t f =
    crossing_off (face_of t) a p (negative_not (value_at (support_of t) p *ℤ along (support_of t) a) (let e =
    zero_scaled (value_at (support_of t) p) (along (support_of t) a) (flat_along t a f) in omega (arith, linear, e)))

-- no segment crosses a flat triangle
pub flat_leg : (p q : Spot) (t : Tri) → IsFlat t → leg (face_of t) p q ≡ pos 0
unfolding face_of
flat_leg p q t f =
    leg_off (face_of t) p q (negative_not (value_at (support_of t) p *ℤ value_at (support_of t) q) (let e =
    zero_times (value_at (support_of t) p) (value_at (support_of t) q) (flat_value t p f) in
    omega (arith, linear, e)))

-- ---- seen from a point
-- the corners of a flat triangle, seen from a point, are flat
pub flat_seen : (p : Spot) (t : Tri) → IsFlat t → Flat (seen p t.a) (seen p t.b) (seen p t.c)
flat_seen p t h =
    let s = vector ∷ vector ∷ vector ∷ tuple ∷ [] in
    let a = vector_of t.a in let b = vector_of t.b in let c = vector_of t.c in let q = tuple_of p in let ww = p.w *ℤ p.w in
    record {
      x = identity s (λ a b c p. (normalE (seenE p a) (seenE p b) (seenE p c)).x ≈ p.w ⊗ p.w ⊗ (supportE a b c).x)
          cancels a b c q ∙ zero_scaled ww (support_of t).a h.a;
      y = identity s (λ a b c p. (normalE (seenE p a) (seenE p b) (seenE p c)).y ≈ p.w ⊗ p.w ⊗ (supportE a b c).y)
          cancels a b c q ∙ zero_scaled ww (support_of t).b h.b;
      z = identity s (λ a b c p. (normalE (seenE p a) (seenE p b) (seenE p c)).z ≈ p.w ⊗ p.w ⊗ (supportE a b c).z)
          cancels a b c q ∙ zero_scaled ww (support_of t).c h.c;
    }

-- a flat triangle isn't crossed along any direction
pub flat_seen_crossing : (f : Vector) (p : Spot) (t : Tri) → IsFlat t → seen_crossing f p t ≡ pos 0
flat_seen_crossing f p t h =
    let u = seen p t.a in let v = seen p t.b in let w = seen p t.c in
    let e : dot f (normal u v w) ≡ pos 0 = let q = flat_seen p t h in dot_zero f (normal u v w) q.x q.y q.z in
    ap (λ (n : Sign). crossing_by_signs (sgn (det u v w)) n (sgn (dot f (cross u v))) (sgn (dot f (cross v w)))
    (sgn (dot f (cross w u)))) (ap sgn e) ∙ no_slope (sgn (det u v w)) (sgn (dot f (cross u v)))
    (sgn (dot f (cross v w))) (sgn (dot f (cross w u)))

-- ---- sums over faces
-- a sum over the triangles' faces is a sum over all triangles, if flat ones count 0
pub total_faces : (f : Face → ℤ) → ((t : Tri) → IsFlat t → f (face_of t) ≡ pos 0) → (ts : List Tri) → total f (faces_of ts) ≡ total (λ t. f (face_of t)) ts
total_faces f z ts =
    total-map f face_of _ ∙ total-filter (λ t. f (face_of t)) (λ t. not (is_flat t)) ts
    ∙ total_same (λ t. cond (not (is_flat t)) (f (face_of t)) (pos 0)) (λ t. f (face_of t)) each ts
  where
    each : (t : Tri) → cond (not (is_flat t)) (f (face_of t)) (pos 0) ≡ f (face_of t)
    each t = by (is_flat t) refl
      where
        by : (b : Bool) → is_flat t ≡ b → cond (not b) (f (face_of t)) (pos 0) ≡ f (face_of t)
        by true e = sym (z t (flat_out t e))
        by false e = refl
