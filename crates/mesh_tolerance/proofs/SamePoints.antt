-- One point with other weights: triangles with such corners are seen alike.
use Rattle.std.proofs.Common.{◌≡◌, sym, ap, ◌∙◌, arith, [], ◌∷◌, ℤ, pos, negsuc, ◌*ℤ◌, ◌<ℤ◌}
use lib.IntN.{*ℤ-zero}
use Rattle.ember_algebra.specs.Sign.{sgn}
use Rattle.ember_algebra.specs.Vector.{Vector, zero_v, plus_v, scale_v, dot, det}
use Rattle.ember_algebra.proofs.Laws.{linear}
use Rattle.ember_algebra.proofs.Order.{pos_mul, cancel_lt}
use Rattle.ember_algebra.proofs.Ring.{num, ◌⊗◌, ◌≈◌, cancels}
use Rattle.ember_algebra.proofs.Vectors.{scalar, vector, tuple, identity, vector_identity, ◌≈v◌, cancels_v, dotE, crossE, detE, scaleE, plusE}
use Rattle.ember_model.specs.declared.point.Axis.{Axis}
use Rattle.ember_model.specs.declared.point.Spot.{Spot}
use Rattle.ember_model.specs.Planes.{unit}
use Rattle.ember_model.proofs.SignTests.{sgn_scaled}
use Rattle.ember_model.proofs.Tuples.{spot_tuple}
use Rattle.ember_model.specs.Points.{displacement}
use Rattle.ember_model.proofs.Displacements.{displacementE}
use Rattle.ember_meaning.proofs.Displacements.{zeroE}
use Rattle.mesh_tolerance.proofs.Rays.{ray_crossing}
use Rattle.mesh_tolerance.proofs.Sides.{turn_of, seen_crossing}

-- corners that are each farther away by a factor of its own are seen alike
scaled_corners : (a : Axis) (i j k : ℤ) (u v w : Vector) → pos 0 <ℤ i → pos 0 <ℤ j → pos 0 <ℤ k →
    seen_crossing a (scale_v i u) (scale_v j v) (scale_v k w) ≡ seen_crossing a u v w
scaled_corners a i j k u v w pi pj pk =
    let d = ap sgn (identity (scalar ∷ scalar ∷ scalar ∷ vector ∷ vector ∷ vector ∷ []) (λ i j k u v w.
    detE (scaleE i u) (scaleE j v) (scaleE k w) ≈ (i ⊗ (j ⊗ k)) ⊗ detE u v w) cancels i j k u v w)
    ∙ sgn_scaled (det u v w) (pos_mul pi (pos_mul pj pk)) in
    let x = turn i j u v pi pj in let y = turn j k v w pj pk in let z = turn k i w u pk pi in
    λ l. ray_crossing (d l) (x l) (y l) (z l)
  where
    turn : (i j : ℤ) (u v : Vector) → pos 0 <ℤ i → pos 0 <ℤ j →
        sgn (turn_of a (scale_v i u) (scale_v j v)) ≡ sgn (turn_of a u v)
    turn i j u v pi pj =
        ap sgn (identity (scalar ∷ scalar ∷ vector ∷ vector ∷ vector ∷ []) (λ i j e u v. dotE e
        (crossE (scaleE i u) (scaleE j v)) ≈ (i ⊗ j) ⊗ dotE e (crossE u v)) cancels i j (unit a) u v)
        ∙ sgn_scaled (turn_of a u v) (pos_mul pi pj)

-- a multiple of 0
pub scaled_none : (k : ℤ) {u : Vector} → u ≡ zero_v → scale_v k u ≡ zero_v
scaled_none k {u} e =
    ap (scale_v k) e ∙ vector_identity (scalar ∷ []) (λ k. scaleE k zeroE ≈v zeroE) cancels_v k

-- u and v are one rational point
pub record IsSamePoint (u v : Spot) : Type 0 where
  pub first : pos 0 <ℤ u.w
  pub second : pos 0 <ℤ v.w
  pub none : displacement u v ≡ zero_v

-- they are seen in one direction
seen_alike : (p u v : Spot) → IsSamePoint u v → scale_v v.w (displacement p u) ≡ scale_v u.w (displacement p v)
seen_alike p u v h =
    let e = vector_identity (tuple ∷ tuple ∷ tuple ∷ []) (λ p u v. scaleE u.w (displacementE p v) ≈v plusE
    (scaleE v.w (displacementE p u)) (scaleE p.w (displacementE u v))) cancels_v (spot_tuple p) (spot_tuple u)
    (spot_tuple v) in
    sym (e ∙ ap (λ (d : Vector). plus_v (scale_v v.w (displacement p u)) (scale_v p.w d)) h.none
    ∙ none_more (scale_v v.w (displacement p u)) p.w)
  where
    none_more : (u : Vector) (k : ℤ) → plus_v u (scale_v k zero_v) ≡ u
    none_more u k = vector_identity (vector ∷ scalar ∷ []) (λ u k. plusE u (scaleE k zeroE) ≈v u) cancels_v u k

pub same_points_are_seen_alike : (a : Axis) (p u v w u' v' w' : Spot) → IsSamePoint u u' → IsSamePoint v v' →
    IsSamePoint w w' → seen_crossing a (displacement p u) (displacement p v) (displacement p w) ≡ seen_crossing a
    (displacement p u') (displacement p v') (displacement p w')
same_points_are_seen_alike a p u v w u' v' w' f g h =
    let x = seen_alike p u u' f in let y = seen_alike p v v' g in let z = seen_alike p w w' h in
    sym (scaled_corners a u'.w v'.w w'.w (displacement p u) (displacement p v) (displacement p w) f.second g.second h.second)
    ∙ (λ i. seen_crossing a (x i) (y i) (z i))
    ∙ scaled_corners a u.w v.w w.w (displacement p u') (displacement p v') (displacement p w') f.first g.first h.first

-- and one is ahead where the other is
pub same_point_is_ahead : (d : Vector) (p u v : Spot) → IsSamePoint u v → pos 0 <ℤ dot d (displacement p u) →
    pos 0 <ℤ dot d (displacement p v)
same_point_is_ahead d p u v h l =
    let e = times d v.w (displacement p u) in let f = times d u.w (displacement p v) in
    let s = ap (dot d) (seen_alike p u v h) in
    let q = pos_mul h.second l in let z = *ℤ-zero u.w in
    cancel_lt {c = u.w} {a = pos 0} {b = dot d (displacement p v)} h.first (omega (arith, linear, e, f, s, q, z))
  where
    times : (d : Vector) (k : ℤ) (u : Vector) → dot d (scale_v k u) ≡ k *ℤ dot d u
    times d k u =
        identity (scalar ∷ vector ∷ vector ∷ []) (λ k d u. dotE d (scaleE k u) ≈ k ⊗ dotE d u) cancels k d u

pub same_point_back : (u v : Spot) → IsSamePoint u v → IsSamePoint v u
same_point_back u v h = record {
  first = h.second;
  second = h.first;
  none = vector_identity (tuple ∷ tuple ∷ []) (λ u v. displacementE v u ≈v scaleE (num (negsuc 0)) (displacementE u v)) cancels_v
      (spot_tuple u) (spot_tuple v) ∙ scaled_none (negsuc 0) h.none;
}
