-- Near each point there are points from which the ways between given corners are general, and corners that lie ahead
-- stay ahead.
use Rattle.std.proofs.Common.{◌≡◌, ◌≢◌, sym, ap, ◌∙◌, arith, [], ◌∷◌, pos, ◌-ℤ◌, ◌*ℤ◌, neg_ℤ, ◌<ℤ◌}
use Rattle.ember_algebra.specs.Large.{Eventually}
use Rattle.ember_algebra.specs.Sign.{sgn}
use Rattle.ember_algebra.specs.Vector.{Vector, dot, cross}
use Rattle.ember_algebra.proofs.Identities.{dot_zero}
use Rattle.ember_algebra.proofs.Large.{eventually_both, eventually_map}
use Rattle.ember_algebra.proofs.Laws.{linear}
use Rattle.ember_algebra.proofs.Ring.{◌⊖◌, ◌⊗◌, ◌≈◌, neg, cancels}
use Rattle.ember_algebra.proofs.Vectors.{vector, tuple, identity, dotE, crossE, valueE, vector_partE}
use Rattle.ember_model.specs.declared.plane.Plane.{Plane}
use Rattle.ember_model.specs.declared.point.Axis.{Axis}
use Rattle.ember_model.specs.declared.point.Axis.TheVariants.{X, Y, Z}
use Rattle.ember_model.specs.declared.point.Spot.{Spot}
use Rattle.ember_model.specs.Planes.{unit, value_at, HasNoNormal}
use Rattle.ember_model.specs.Points.{offset_by, displacement}
use Rattle.ember_model.proofs.SignTests.{sgn_scaled, zero_scaled}
use Rattle.ember_model.proofs.Tuples.{spot_tuple}
use Rattle.ember_model.proofs.Displacements.{displacementE}
use Rattle.ember_law.proofs.Generic.{cancel_zero}
use Rattle.ember_law.proofs.Shifted.{follows_shifted, off_shifted, weight_shifted}
use Rattle.mesh_certificate.specs.Key.LineKeys.{numerators}
use Rattle.mesh_tolerance.proofs.Sides.{next, upward, height_of, IsGeneralSide}
use Rattle.mesh_tolerance.proofs.Prisms.{IsGeneralWall}

-- ---- the plane through a corner at right angles to a direction
abbrev plane_across : Vector → Spot → Plane
plane_across h u = record { a = u.w *ℤ h.x; b = u.w *ℤ h.y; c = u.w *ℤ h.z; d = dot h (numerators u) }

value_across : (h : Vector) (u p : Spot) → value_at (plane_across h u) p ≡ neg_ℤ (dot h (displacement p u))
value_across h u p =
    identity (vector ∷ tuple ∷ tuple ∷ [])
    (λ h u p. valueE (record { x = u.w ⊗ h.x; y = u.w ⊗ h.y; z = u.w ⊗ h.z; w = dotE h (vector_partE u) }) p ≈ neg
    (dotE h (displacementE p u))) cancels h (spot_tuple u) (spot_tuple p)

-- what lies ahead stays ahead
pub ahead_shifted : (d : Vector) (u p : Spot) → pos 0 <ℤ dot d (displacement p u) →
    Eventually (λ k. pos 0 <ℤ dot d (displacement (offset_by p (pos k)) u))
ahead_shifted d u p l =
    eventually_map (λ k f. let n = f.down below in let e = value_across d u (offset_by p (pos k)) in
    omega (arith, linear, n, e)) (follows_shifted p (plane_across d u))
  where
    below : value_at (plane_across d u) p <ℤ pos 0
    below = let e = value_across d u p in omega (arith, linear, l, e)

-- no corner is level
height_shifted : (a : Axis) (u p : Spot) → pos 0 <ℤ u.w →
    Eventually (λ k. height_of a (displacement (offset_by p (pos k)) u) ≢ pos 0)
height_shifted a u p wu =
    eventually_map (λ k off z. some a (off (value_across (upward a) u (offset_by p (pos k)) ∙ ap neg_ℤ z)))
    (off_shifted p (plane_across (upward a) u))
  where
    some : (a : Axis) → HasNoNormal (plane_across (upward a) u) → ⊥
    some X n = let e = n.1 in omega (arith, linear, wu, e)
    some Y n = let e = n.2 in omega (arith, linear, wu, e)
    some Z n = let e = n.0 in omega (arith, linear, wu, e)

-- ---- the plane through two corners along a direction
abbrev plane_along : Vector → Spot → Spot → Plane
plane_along e u v =
    let k = cross e (displacement u v) in
    record { a = k.x; b = k.y; c = k.z; d = neg_ℤ (dot e (cross (numerators u) (numerators v))) }

value_along : (e : Vector) (u v p : Spot) →
    dot e (cross (displacement p u) (displacement p v)) ≡ p.w *ℤ value_at (plane_along e u v) p
value_along e u v p =
    identity (vector ∷ tuple ∷ tuple ∷ tuple ∷ [])
    (λ e u v p. let k = crossE e (displacementE u v) in
    dotE e (crossE (displacementE p u) (displacementE p v)) ≈ p.w ⊗ valueE
    (record { x = k.x; y = k.y; z = k.z; w = neg (dotE e (crossE (vector_partE u) (vector_partE v))) }) p) cancels e
    (spot_tuple u) (spot_tuple v) (spot_tuple p)

-- heights change with the way from u to v
height_change : (h : Vector) (u v p : Spot) → u.w *ℤ dot h (displacement p v) -ℤ v.w *ℤ dot h (displacement p u) ≡ p.w *ℤ
    dot h (displacement u v)
height_change h u v p =
    identity (vector ∷ tuple ∷ tuple ∷ tuple ∷ [])
    (λ h u v p. u.w ⊗ dotE h (displacementE p v) ⊖ v.w ⊗ dotE h (displacementE p u) ≈ p.w ⊗ dotE h (displacementE u v))
    cancels h (spot_tuple u) (spot_tuple v) (spot_tuple p)

module _ (a : Axis) (u v : Spot) (wu : pos 0 <ℤ u.w) (wv : pos 0 <ℤ v.w) where
  -- two corners on one line along the axis are on one side
  along_alike : (p : Spot) → HasNoNormal (plane_along (unit a) u v) →
      sgn (height_of a (displacement p u)) ≡ sgn (height_of a (displacement p v))
  along_alike p n =
      sym (sgn_scaled (height_of a (displacement p u)) wv) ∙ ap sgn same ∙ sgn_scaled (height_of a (displacement p v)) wu
    where
      none : dot (upward a) (displacement u v) ≡ pos 0
      none =
          identity (vector ∷ vector ∷ vector ∷ []) (λ k e d. dotE (crossE k e) d ≈ dotE k (crossE e d)) cancels
          (unit (next a)) (unit a) (displacement u v)
          ∙ dot_zero (unit (next a)) (cross (unit a) (displacement u v)) n.0 n.1 n.2

      same : v.w *ℤ height_of a (displacement p u) ≡ u.w *ℤ height_of a (displacement p v)
      same =
          let e = height_change (upward a) u v p in let z = zero_scaled p.w (dot (upward a) (displacement u v)) none in
          omega (arith, linear, e, z)

  -- the way from u to v is general from the points near p
  pub side_shifted : (p : Spot) → pos 0 <ℤ p.w →
      Eventually (λ k. IsGeneralSide a (displacement (offset_by p (pos k)) u) (displacement (offset_by p (pos k)) v))
  side_shifted p wp =
      eventually_map (λ k h. let q = offset_by p (pos k) in record {
        first = h.0;
        second = h.1.0;
        alike = λ z. along_alike q (h.1.1.1 (cancel_zero q.w (value_at (plane_along (unit a) u v) q) h.1.1.0
            (sym (value_along (unit a) u v q) ∙ z)));
      }) (eventually_both (height_shifted a u p wu) (eventually_both (height_shifted a v p wv)
      (eventually_both (weight_shifted p wp) (off_shifted p (plane_along (unit a) u v)))))

-- all ways between the corners of a wall
pub wall_shifted : (a : Axis) (u u' v v' p : Spot) → pos 0 <ℤ u.w → pos 0 <ℤ u'.w → pos 0 <ℤ v.w → pos 0 <ℤ v'.w →
    pos 0 <ℤ p.w → Eventually (λ k. IsGeneralWall a (displacement (offset_by p (pos k)) u)
    (displacement (offset_by p (pos k)) u') (displacement (offset_by p (pos k)) v)
    (displacement (offset_by p (pos k)) v'))
wall_shifted a u u' v v' p wu wu' wv wv' wp =
    eventually_map (λ k h. record {
      before = h.0;
      after = h.1.0;
      start = h.1.1.0;
      end = h.1.1.1.0;
      there = h.1.1.1.1.0;
      back = h.1.1.1.1.1;
    }) (eventually_both (side_shifted a u v wu wv p wp) (eventually_both (side_shifted a u' v' wu' wv' p wp)
    (eventually_both (side_shifted a u u' wu wu' p wp) (eventually_both (side_shifted a v v' wv wv' p wp)
    (eventually_both (side_shifted a u v' wu wv' p wp) (side_shifted a v u' wv wu' p wp))))))
