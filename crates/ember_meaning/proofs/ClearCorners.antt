-- A point that misses some planes of a face is clear of it: corners of the rectangle do.
use Rattle.std.proofs.Common.{◌≡◌, ◌≢◌, refl, sym, ap, subst, ◌∙◌, arith, Bool, true, false, not, ◌&&◌, List, [], ◌∷◌}
use Rattle.std.proofs.Common.{map, ℤ, pos, ◌+ℤ◌, ◌*ℤ◌, neg_ℤ, ◌<ℤ◌, ◌≤ℤ◌}
use Rattle.std.specs.List.{AllByRecursion}
use lib.IntN.{*ℤ_comm}
use Rattle.std.proofs.lemmas.Bool.{and_parts}
use Rattle.ember_algebra.specs.Vector.{Vector, zero_v, scale_v, cross}
use Rattle.ember_algebra.specs.Sign.{is_positive, sign}
use Rattle.ember_algebra.proofs.Laws.{linear}
use Rattle.ember_algebra.proofs.Ring.{◌⊕◌, ◌⊗◌}
use Rattle.ember_algebra.proofs.Vectors.{scalar, tuple, vector_identity, scaleE, crossE, same_v, ◌≈v◌, cancels_v}
use Rattle.ember_model.specs.declared.plane.Plane.{Plane}
use Rattle.ember_model.specs.declared.point.Spot.{Spot}
use Rattle.ember_model.specs.declared.point.Axis.{Axis}
use Rattle.ember_model.specs.declared.face.Face.{Face}
use Rattle.ember_model.specs.Planes.{value_at, along, HasNoNormal}
use Rattle.ember_model.specs.Points.{scaled, moved}
use Rattle.ember_model.specs.Faces.{size, hit, is_in_closed, is_inside}
use Rattle.ember_model.specs.Clear.{IsClear}
use Rattle.ember_model.specs.ClearTest.{none_positive, all_negative}
use Rattle.ember_model.specs.Edges.{normal, RingEdge}
use Rattle.ember_model.specs.FaceFiles.{WrittenFace}
use Rattle.ember_model.proofs.SignTests.{zero_scaled, size_positive}
use Rattle.ember_model.proofs.PlaneValues.{value_scaled}
use Rattle.ember_model.proofs.Hits.{same_all_negative, same_none_positive, value_ray, ray_weight, inside_on, closed_parts}
use Rattle.ember_model.proofs.ClearPoints.{hit_is_one_point, nonzero_product}
use Rattle.ember_model.proofs.Tuples.{plane_tuple, normalE}
use Rattle.ember_law.proofs.Generic.{at_hit_of, value_at_hit, cancel_zero}
use Rattle.ember_law.proofs.GenericClear.{strict}
use Rattle.ember_poly.proofs.OutlinePoints.{Ended, edge_has_end}
use Rattle.ember_meaning.specs.Closed.Chains.{face_from, IsOutlined}
use Rattle.ember_meaning.proofs.EdgeForm.{course_nonzero, has_normal}
use Rattle.ember_meaning.proofs.Displacements.{none_parallel, parallel_swap}

-- ---- clear of a face
all_strict : (x : Spot) (es : List Plane) → AllByRecursion (λ g. value_at g x ≢ pos 0) es → none_positive es x ≡ true → all_negative es x ≡ true
all_strict x [] o h = h
all_strict x (g ∷ es) o h =
    let p = and_parts (not (is_positive (value_at g x))) (none_positive es x) h in let q =
    strict (value_at g x) o.0 p.0 in let r = all_strict x es o.1 p.1 in λ i. q i && r i

-- a point off the support plane whose axis rays miss the edge planes where they meet that plane is clear
pub missed_face_is_clear : (f : Face) (p : Spot) → pos 0 <ℤ p.w → value_at f.support p ≢ pos 0 →
    ((a : Axis) → along f.support a ≢ pos 0 → AllByRecursion (λ g. value_at g (hit f.support a p) ≢ pos 0) f.edges) →
    IsClear f p
missed_face_is_clear f p w off o =
    record { outside = not_closed (is_in_closed f p) refl; rays = rays }
  where
    not_closed : (b : Bool) → is_in_closed f p ≡ b → is_in_closed f p ≡ false
    not_closed true e = absurd (off (closed_parts f p e).1)
    not_closed false e = e

    rays : (a : Axis) (m s : ℤ) → pos 0 <ℤ m → pos 0 ≤ℤ s → is_in_closed f (moved (scaled m p) a s) ≡ true → is_inside f (moved (scaled m p) a s) ≡ true
    rays a m s lm ls c =
        let n = f.support in let es = f.edges in let r = moved (scaled m p) a s in
        let x = closed_parts f r c in
        let z : m *ℤ value_at n p +ℤ s *ℤ along n a ≡ pos 0 = sym (value_ray n a p m s) ∙ x.1 in
        let nz : along n a ≢ pos 0 = λ e. off (nonzero_product (value_at n p) m (λ q. omega (arith, linear, lm, q))
        (let v = zero_scaled s (along n a) e in *ℤ_comm (value_at n p) m ∙ omega (arith, linear, v, z))) in
        let k = size (along n a) in
        let most : none_positive es (hit n a p) ≡ true =
        sym (same_none_positive m (hit n a p) (scaled k r) es lm (hit_is_one_point n a p m s z))
        ∙ same_none_positive k r (scaled k r) es (size_positive (along n a) nz) (λ g. value_scaled k g r) ∙ x.2 in
        let low : all_negative es (hit n a p) ≡ true = all_strict (hit n a p) es (o a nz) most in
        let l = sym (same_all_negative k r (scaled k r) es (size_positive (along n a) nz) (λ g. value_scaled k g r))
        ∙ same_all_negative m (hit n a p) (scaled k r) es lm (hit_is_one_point n a p m s z) ∙ low in
        inside_on f r (ray_weight a p m s lm w) x.1 ∙ l

-- ---- of outlined faces
-- the plane that gives an edge plane's value at the hit has a normal, since the edge has a course
pub hit_course : (n g : Plane) (a : Axis) → cross (normal n) (normal (at_hit_of g n a)) ≡ scale_v (size (along n a)) (cross (normal n) (normal g))
hit_course n g a =
    vector_identity (tuple ∷ tuple ∷ scalar ∷ scalar ∷ [])
    (λ n g m k. crossE (normalE n) (record { x = m ⊗ g.x ⊕ k ⊗ n.x; y = m ⊗ g.y ⊕ k ⊗ n.y; z = m ⊗ g.z ⊕ k ⊗ n.z }) ≈v
    scaleE m (crossE (normalE n) (normalE g))) cancels_v (plane_tuple n) (plane_tuple g) (size (along n a))
    (neg_ℤ (sign (along n a)) *ℤ along g a)

hit_has_normal : (f : Face) (a : Axis) → along f.support a ≢ pos 0 → (e : RingEdge) → Ended f e → HasNoNormal (at_hit_of e.plane f.support a) → ⊥
hit_has_normal f a nz e d n =
    course_nonzero f e d.end d.is (same_v (entry (ap (λ (v : Vector). v.x) whole))
    (entry (ap (λ (v : Vector). v.y) whole)) (entry (ap (λ (v : Vector). v.z) whole)))
  where
    whole : scale_v (size (along f.support a)) (cross (normal f.support) (normal e.plane)) ≡ zero_v
    whole =
        sym (hit_course f.support e.plane a) ∙ parallel_swap (normal (at_hit_of e.plane f.support a)) (normal f.support)
        (none_parallel (normal f.support) (same_v n.0 n.1 n.2))

    entry : {v : ℤ} → size (along f.support a) *ℤ v ≡ pos 0 → v ≡ pos 0
    entry {v} z = cancel_zero (size (along f.support a)) v (size_positive (along f.support a) nz) z

-- p isn't on the planes of f, as its rays meet them, that have a normal
pub record IsOffFace (f : Face) (p : Spot) : Type 0 where
  pub weight : pos 0 <ℤ p.w
  pub support : value_at f.support p ≡ pos 0 → HasNoNormal f.support
  pub hits : (a : Axis) → AllByRecursion (λ g. value_at (at_hit_of g f.support a) p ≡ pos 0 → HasNoNormal (at_hit_of g f.support a)) f.edges

-- a point off the planes of an outlined face is clear of it
pub off_face_is_clear : (w : WrittenFace) (p : Spot) → IsOutlined w → IsOffFace (face_from w) p → IsClear (face_from w) p
off_face_is_clear w p line o =
    missed_face_is_clear (face_from w) p o.weight (λ z. has_normal (face_from w) line.first ends_first (o.support z))
    (λ a nz. missed a nz w.edges ends (o.hits a))
  where
    ends : AllByRecursion (λ e. Ended (face_from w) e) w.edges
    ends = edge_has_end (face_from w) line.first.start w.edges line.round

    ends_first : Ended (face_from w) line.first
    ends_first = (subst (λ es. AllByRecursion (λ e. Ended (face_from w) e) es) line.begins ends).0

    missed : (a : Axis) → along w.support a ≢ pos 0 → (es : List RingEdge) →
        AllByRecursion (λ e. Ended (face_from w) e) es →
        AllByRecursion (λ g. value_at (at_hit_of g w.support a) p ≡ pos 0 →
        HasNoNormal (at_hit_of g w.support a)) (map (λ e. e.plane) es) →
        AllByRecursion (λ g. value_at g (hit w.support a p) ≢ pos 0) (map (λ e. e.plane) es)
    missed a nz [] ds o = tt
    missed a nz (e ∷ es) ds o =
        (λ z. hit_has_normal (face_from w) a nz e ds.0 (o.0 (value_at_hit e.plane w.support a p ∙ z)), missed a nz es ds.1 o.1)
