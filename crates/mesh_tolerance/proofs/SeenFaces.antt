-- The crossing of a face by how its corners are seen from the start of the ray.
use Rattle.std.proofs.Common.{refl, ◌≡◌, ◌≢◌, sym, ap, subst, ◌∙◌, arith, Bool, T, not, true, ◌&&◌, cond, [], ◌∷◌, ℤ, pos, ◌+ℤ◌, ◌*ℤ◌, neg_ℤ, ◌<ℤ◌}
use lib.IntN.{*ℤ_comm}
use Rattle.ember_algebra.specs.declared.Sign.{Sign}
use Rattle.ember_algebra.specs.declared.Sign.TheVariants.{Neg, Zero, Pos}
use Rattle.ember_algebra.specs.Sign.{sign, sgn, flip, times, is_neg, is_nil, same_sgn}
use Rattle.ember_algebra.specs.Vector.{Vector, zero_v, dot, cross, det}
use Rattle.ember_algebra.proofs.Identities.{orthogonal_parallel, parallel_products}
use Rattle.ember_algebra.proofs.Laws.{linear}
use Rattle.ember_algebra.proofs.Order.{by_sign, pos_mul}
use Rattle.ember_algebra.proofs.Ring.{◌⊕◌, ◌⊗◌, ◌≈◌, num, cancels}
use Rattle.ember_algebra.proofs.Signs.{◌⇒◌, use_if, signs, sgn-mul, sgn-neg, not_null, sum3, sum3_from}
use Rattle.ember_algebra.proofs.Vectors.{scalar, vector, tuple, identity, VectorE, TupleE, dotE, crossE, detE, square_positive}
use Rattle.ember_model.specs.declared.plane.Plane.{Plane}
use Rattle.ember_model.specs.declared.point.Axis.{Axis}
use Rattle.ember_model.specs.declared.point.Axis.TheVariants.{X, Y, Z}
use Rattle.ember_model.specs.declared.point.Spot.{Spot}
use Rattle.ember_model.specs.declared.face.Face.{Face}
use Rattle.ember_model.specs.Edges.{normal}
use Rattle.ember_model.specs.Faces.{size, hit, crossing}
use Rattle.ember_model.specs.Planes.{unit, value_at, along}
use Rattle.ember_model.specs.Points.{scaled, moved, displacement}
use Rattle.ember_model.proofs.Hits.{crossing_off, crossing_across}
use Rattle.ember_model.proofs.PlaneValues.{along_dot, hit_flat, sign-number}
use Rattle.ember_model.proofs.SignTests.{sgn_scaled, same_sgn_out, negative_not, positive_nonzero, size_positive, zero_scaled}
use Rattle.ember_model.proofs.Tuples.{spot_tuple}
use Rattle.ember_model.proofs.Displacements.{displacementE, displacement_value}
use Rattle.ember_meaning.proofs.Displacements.{dot_swap, orthogonal_to_none}
use Rattle.ember_meaning.proofs.EdgeForm.{flat_displacement}
use Rattle.mesh_certificate.specs.Certificate.Facing.{triangle_normal, FacesFront}
use Rattle.mesh_solid.specs.Winding.TriangleFaces.{side_plane, face_of_points}
use Rattle.mesh_solid.proofs.GeneralPoints.{hit_weight}
use Rattle.mesh_solid.proofs.Seen.{area, turn_at, side_value}
use Rattle.mesh_tolerance.proofs.Rays.{ray_crossing, no_area_no_crossing, face_crossing}
use Rattle.mesh_tolerance.proofs.Sides.{turn_of, seen_crossing}

-- ---- turns, from the hit and from the start of the ray
-- seen along the ray, two corners turn alike from all of its points
turn_along_ray : (a : Axis) (m t : ℤ) (p u v : Spot) →
    turn_of a (displacement (moved (scaled m p) a t) u) (displacement (moved (scaled m p) a t) v) ≡ (m *ℤ m) *ℤ turn_of a
    (displacement p u) (displacement p v)
turn_along_ray X m t p u v =
    identity (scalar ∷ scalar ∷ tuple ∷ tuple ∷ tuple ∷ [])
    (λ m t p u v. let q : TupleE = record { x = m ⊗ p.x ⊕ t; y = m ⊗ p.y; z = m ⊗ p.z; w = m ⊗ p.w } in
    let e : VectorE = record { x = num (pos 1); y = num (pos 0); z = num (pos 0) } in
    dotE e (crossE (displacementE q u) (displacementE q v)) ≈ (m ⊗ m) ⊗ dotE e
    (crossE (displacementE p u) (displacementE p v))) cancels m t (spot_tuple p) (spot_tuple u) (spot_tuple v)
turn_along_ray Y m t p u v =
    identity (scalar ∷ scalar ∷ tuple ∷ tuple ∷ tuple ∷ [])
    (λ m t p u v. let q : TupleE = record { x = m ⊗ p.x; y = m ⊗ p.y ⊕ t; z = m ⊗ p.z; w = m ⊗ p.w } in
    let e : VectorE = record { x = num (pos 0); y = num (pos 1); z = num (pos 0) } in
    dotE e (crossE (displacementE q u) (displacementE q v)) ≈ (m ⊗ m) ⊗ dotE e
    (crossE (displacementE p u) (displacementE p v))) cancels m t (spot_tuple p) (spot_tuple u) (spot_tuple v)
turn_along_ray Z m t p u v =
    identity (scalar ∷ scalar ∷ tuple ∷ tuple ∷ tuple ∷ [])
    (λ m t p u v. let q : TupleE = record { x = m ⊗ p.x; y = m ⊗ p.y; z = m ⊗ p.z ⊕ t; w = m ⊗ p.w } in
    let e : VectorE = record { x = num (pos 0); y = num (pos 0); z = num (pos 1) } in
    dotE e (crossE (displacementE q u) (displacementE q v)) ≈ (m ⊗ m) ⊗ dotE e
    (crossE (displacementE p u) (displacementE p v))) cancels m t (spot_tuple p) (spot_tuple u) (spot_tuple v)

-- vectors in a plane turn as seen from its front as they do along e, times the normal's entry
flat_turn : (n e f g : Vector) → dot n f ≡ pos 0 → dot n g ≡ pos 0 →
    dot e n *ℤ dot n (cross f g) ≡ dot n n *ℤ dot e (cross f g)
flat_turn n e f g zf zg =
    parallel_products e n n (cross f g) (orthogonal_parallel n f g zf zg) ∙ *ℤ_comm (dot e (cross f g)) (dot n n)

-- a sign turned over twice is itself
flip_flip : (s : Sign) → flip (flip s) ≡ s
flip_flip Neg = refl
flip_flip Zero = refl
flip_flip Pos = refl

-- a sign times another twice is that sign
undone : (k x : Sign) → T (not (is_nil k)) → times k (times k x) ≡ x
undone k x t =
    same_sgn_out _ _ (use_if (not (is_nil k)) _ (signs 2 (λ k x. not (is_nil k) ⇒ same_sgn (times k (times k x)) x) tt k x) t)

-- ---- a side of a face
module _ (a : Axis) (n : Plane) (p u v : Spot) (wp : pos 0 <ℤ p.w) (wu : pos 0 <ℤ u.w) (zu : value_at n u ≡ pos 0)
    (zv : value_at n v ≡ pos 0) (nz : along n a ≢ pos 0) (some : normal n ≢ zero_v) where
  abbrev x : Spot
  x = hit n a p

  abbrev turn : ℤ
  turn = turn_of a (displacement p u) (displacement p v)

  sizes : pos 0 <ℤ (size (along n a) *ℤ size (along n a))
  sizes = let s = size_positive (along n a) nz in pos_mul s s

  -- the turn from the hit, times the normal's entry, has the sign of that from the start
  entry_turn : times (sgn (along n a)) (sgn (turn_at n x u v)) ≡ sgn turn
  unfolding area
  entry_turn =
      let s = size (along n a) in let f = displacement x u in let g = displacement x v in
      sym (sgn-mul (along n a) (dot (normal n) (cross f g)))
      ∙ ap (λ (z : ℤ). sgn (z *ℤ dot (normal n) (cross f g))) (along_dot n a ∙ dot_swap (normal n) (unit a))
      ∙ ap sgn (flat_turn (normal n) (unit a) f g (flat_displacement n x u (hit_flat n a p) zu)
      (flat_displacement n x v (hit_flat n a p) zv))
      ∙ sgn_scaled (dot (unit a) (cross f g)) (square_positive (normal n) some)
      ∙ ap sgn (turn_along_ray a s (neg_ℤ (sign (along n a) *ℤ value_at n p)) p u v) ∙ sgn_scaled turn sizes

  -- a side's plane at the hit has the sign of the turn, but for that of the normal's entry, and is negative to the left
  pub side_at_hit : sgn (value_at (side_plane n u v) x) ≡ flip (times (sgn (along n a)) (sgn turn))
  side_at_hit =
      let g = value_at (side_plane n u v) x in
      sym (flip_flip (sgn g)) ∙ ap flip (sym (ap flip (sgn_scaled g (hit_weight n a p nz wp))) ∙ sym (sgn-neg (x.w *ℤ g))
      ∙ ap sgn (sym (side_value n x u v)) ∙ sgn_scaled (turn_at n x u v) wu
      ∙ sym (undone (sgn (along n a)) (sgn (turn_at n x u v)) (not_null (along n a) nz))
      ∙ ap (λ (s : Sign). times (sgn (along n a)) s) entry_turn)

-- ---- three corners
-- the turns of the sides add up to the area, seen along the axis
areas_add : (a : Axis) (p u v w : Spot) → (u.w *ℤ w.w) *ℤ turn_of a (displacement p u) (displacement p v) +ℤ
    (u.w *ℤ u.w) *ℤ turn_of a (displacement p v) (displacement p w) +ℤ
    (u.w *ℤ v.w) *ℤ turn_of a (displacement p w) (displacement p u) ≡ (p.w *ℤ p.w) *ℤ dot (unit a) (triangle_normal u v w)
areas_add a p u v w =
    identity (vector ∷ tuple ∷ tuple ∷ tuple ∷ tuple ∷ [])
    (λ e p u v w. (u.w ⊗ w.w) ⊗ dotE e (crossE (displacementE p u) (displacementE p v)) ⊕ (u.w ⊗ u.w) ⊗ dotE e
    (crossE (displacementE p v) (displacementE p w)) ⊕ (u.w ⊗ v.w) ⊗ dotE e
    (crossE (displacementE p w) (displacementE p u)) ≈ (p.w ⊗ p.w) ⊗ dotE e
    (crossE (displacementE u v) (displacementE u w))) cancels (unit a) (spot_tuple p) (spot_tuple u) (spot_tuple v)
    (spot_tuple w)

-- the determinant by the area and one corner
volume : (p u v w : Spot) → (u.w *ℤ u.w) *ℤ det (displacement p u) (displacement p v) (displacement p w) ≡ (p.w *ℤ p.w) *ℤ
    dot (displacement p u) (triangle_normal u v w)
volume p u v w =
    identity (tuple ∷ tuple ∷ tuple ∷ tuple ∷ [])
    (λ p u v w. (u.w ⊗ u.w) ⊗ detE (displacementE p u) (displacementE p v) (displacementE p w) ≈ (p.w ⊗ p.w) ⊗ dotE
    (displacementE p u) (crossE (displacementE u v) (displacementE u w))) cancels (spot_tuple p) (spot_tuple u)
    (spot_tuple v) (spot_tuple w)

module _ (a : Axis) (p u v w : Spot) (wp : pos 0 <ℤ p.w) (wu : pos 0 <ℤ u.w) (wv : pos 0 <ℤ v.w) (ww : pos 0 <ℤ w.w) where
  abbrev uv : ℤ
  uv = turn_of a (displacement p u) (displacement p v)

  abbrev vw : ℤ
  vw = turn_of a (displacement p v) (displacement p w)

  abbrev wu' : ℤ
  wu' = turn_of a (displacement p w) (displacement p u)

  -- the signs of the turns fit that of the area
  turns_fit : (s : Sign) → sgn (dot (unit a) (triangle_normal u v w)) ≡ s → T (sum3 (sgn uv) (sgn vw) (sgn wu') s)
  turns_fit s e =
      let x = sgn_scaled uv (pos_mul wu ww) in let y = sgn_scaled vw (pos_mul wu wu) in
      let z = sgn_scaled wu' (pos_mul wu wv) in
      let t = sgn_scaled (dot (unit a) (triangle_normal u v w)) (pos_mul wp wp) ∙ e in
      subst (λ (b : Bool). T b) (λ i. sum3 (x i) (y i) (z i) (t i))
      (sum3_from ((u.w *ℤ w.w) *ℤ uv) ((u.w *ℤ u.w) *ℤ vw) ((u.w *ℤ v.w) *ℤ wu')
      ((p.w *ℤ p.w) *ℤ dot (unit a) (triangle_normal u v w)) (areas_add a p u v w))

  -- a triangle without an area isn't crossed
  pub flat_is_not_crossed : triangle_normal u v w ≡ zero_v →
      seen_crossing a (displacement p u) (displacement p v) (displacement p w) ≡ pos 0
  flat_is_not_crossed z =
      no_area_no_crossing (sgn (det (displacement p u) (displacement p v) (displacement p w))) (sgn uv) (sgn vw) (sgn wu')
      (turns_fit Zero (ap sgn (orthogonal_to_none (unit a) z)))

  module _ (n : Plane) (front : FacesFront n u v w) where
    abbrev k : Vector
    k = triangle_normal u v w

    some : normal n ≢ zero_v
    some z = positive_nonzero front.front (dot_swap (normal n) k ∙ orthogonal_to_none k z)

    parallel : cross (normal n) k ≡ zero_v
    parallel =
        orthogonal_parallel (normal n) (displacement u v) (displacement u w)
        (flat_displacement n u v front.first front.second) (flat_displacement n u w front.first front.third)

    -- a product with the triangle's normal has the sign of that with the plane's
    same_side : (e : Vector) → sgn (dot e k) ≡ sgn (dot e (normal n))
    same_side e =
        sym (sgn_scaled (dot e k) (square_positive (normal n) some))
        ∙ ap sgn (parallel_products (normal n) e (normal n) k parallel) ∙ sgn_scaled (dot e (normal n)) front.front

    area_sign : sgn (dot (unit a) k) ≡ sgn (along n a)
    area_sign = same_side (unit a) ∙ ap sgn (dot_swap (unit a) (normal n) ∙ sym (along_dot n a))

    volume_sign : sgn (det (displacement p u) (displacement p v) (displacement p w)) ≡ flip (sgn (value_at n p))
    volume_sign =
        let f = displacement p u in
        let e : dot f (normal n) ≡ neg_ℤ (u.w *ℤ value_at n p) =
        let h = displacement_value n p u in let z = zero_scaled p.w (value_at n u) front.first in
        dot_swap f (normal n) ∙ omega (arith, linear, h, z) in
        sym (sgn_scaled (det f (displacement p v) (displacement p w)) (pos_mul wu wu)) ∙ ap sgn (volume p u v w)
        ∙ sgn_scaled (dot f k) (pos_mul wp wp) ∙ same_side f ∙ ap sgn e ∙ sgn-neg (u.w *ℤ value_at n p)
        ∙ ap flip (sgn_scaled (value_at n p) wu)

    fits : T (sum3 (sgn uv) (sgn vw) (sgn wu') (sgn (along n a)))
    fits = turns_fit (sgn (along n a)) area_sign

    abbrev f : Face
    f = face_of_points n u v w

    -- a plane along the axis
    off : along n a ≡ pos 0 → crossing f a p ≡ seen_crossing a (displacement p u) (displacement p v) (displacement p w)
    off z =
        crossing_off f a p (negative_not (value_at n p *ℤ along n a) (let r = zero_scaled (value_at n p) (along n a) z in
        omega (arith, linear, r)))
        ∙ sym (no_area_no_crossing (sgn (det (displacement p u) (displacement p v) (displacement p w))) (sgn uv) (sgn vw)
        (sgn wu') (turns_fit Zero (area_sign ∙ ap sgn z)))

    on : along n a ≢ pos 0 → crossing f a p ≡ seen_crossing a (displacement p u) (displacement p v) (displacement p w)
    on nz =
        let s = sgn-mul (value_at n p) (along n a) in
        let x = side_at_hit a n p u v wp wu front.first front.second nz some in
        let y = side_at_hit a n p v w wp wv front.second front.third nz some in
        let z = side_at_hit a n p w u wp ww front.third front.first nz some in
        let t = sign-number (along n a) in let d = volume_sign in
        crossing_across f a p wp nz
        ∙ (λ i. cond (is_neg (s i) && (is_neg (x i) && (is_neg (y i) && (is_neg (z i) && true)))) (t i) (pos 0))
        ∙ face_crossing (sgn (value_at n p)) (sgn (along n a)) (sgn uv) (sgn vw) (sgn wu') fits
        ∙ sym (λ i. ray_crossing (d i) (sgn uv) (sgn vw) (sgn wu'))

    -- the crossing of a face of three points is that of its corners as they are seen from the start of the ray
    pub face_is_seen : crossing f a p ≡ seen_crossing a (displacement p u) (displacement p v) (displacement p w)
    face_is_seen = by_sign (along n a) (λ l. on (λ z. omega (arith, linear))) off (λ l. on (λ z. omega (arith, linear)))
