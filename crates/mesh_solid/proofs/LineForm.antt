-- Ways on one line: a ray that meets the line passes those that begin on one side of the ray and end on the other.
use Rattle.std.proofs.Common.{◌≡◌, ◌≢◌, refl, sym, ap, ◌∙◌, Bool, true, false, T, [], ◌∷◌, ℤ, pos, ◌-ℤ◌, ◌*ℤ◌, neg_ℤ, ◌<ℤ◌}
use Rattle.ember_algebra.specs.Vector.{Vector, zero_v, minus_v, scale_v, dot, cross}
use Rattle.ember_algebra.specs.declared.Sign.{Sign}
use Rattle.ember_algebra.specs.Sign.{sgn, flip, times, is_pos}
use Rattle.ember_algebra.proofs.Ring.{◌⊖◌, ◌⊗◌, ◌≈◌, cancels}
use Rattle.ember_algebra.proofs.Signs.{pick, may_sum, both, not_null, sum_may, sgn-mul, sgn-neg}
use Rattle.ember_algebra.proofs.Vectors.{scalar, vector, tuple, identity, vector_identity, dotE, crossE, scaleE, minusE, ◌≈v◌, cancels_v, vector_partE, detE}
use Rattle.ember_algebra.proofs.Vectors.{square_positive}
use Rattle.ember_algebra.proofs.Identities.{parallel_products}
use Rattle.ember_model.specs.declared.plane.Plane.{Plane}
use Rattle.ember_model.specs.declared.point.Spot.{Spot}
use Rattle.ember_model.specs.Edges.{normal}
use Rattle.ember_model.proofs.SignTests.{sgn_scaled}
use Rattle.ember_model.proofs.Tuples.{spot_tuple}
use Rattle.ember_model.specs.Points.{displacement}
use Rattle.ember_model.proofs.Displacements.{displacementE}
use Rattle.ember_meaning.proofs.Displacements.{Parallel, zeroE, parallel_swap}
use Rattle.mesh_certificate.specs.declared.key.lines.LineKey.{LineKey}
use Rattle.mesh_certificate.specs.Key.LineKeys.{direction, moment, numerators, IsOnLine}
use Rattle.mesh_solid.proofs.Passings.{passing, below, passing_on_line}
use Rattle.mesh_solid.proofs.Seen.{area, height, turn_at, passing_at, area_dot, turn_sign, step_sign, may_sums}

-- ---- what the ray from x along e has to do with a line
-- how the line's direction turns as seen from x, times a positive number
abbrev pub turn_of_line : Plane → Spot → LineKey → ℤ
turn_of_line n x k = x.w *ℤ dot (normal n) (moment k) -ℤ dot (normal n) (cross (numerators x) (direction k))

-- how it climbs
abbrev pub climb_of_line : Plane → Vector → LineKey → ℤ
climb_of_line n e k = area n e (direction k)

-- the ray meets the line
abbrev pub meets_line : Plane → Vector → Spot → LineKey → Bool
meets_line n e x k = is_pos (times (sgn (turn_of_line n x k)) (sgn (climb_of_line n e k)))

-- 1 if it does, and u is below the ray
abbrev pub below_on : Plane → Vector → Spot → LineKey → Spot → ℤ
below_on n e x k u = pick (meets_line n e x k) (below (sgn (height n e x u)))

picked_difference : (b : Bool) (y z : ℤ) → pick b (y -ℤ z) ≡ pick b y -ℤ pick b z
picked_difference true y z = refl
picked_difference false y z = refl

-- ---- two of its points
module _ (n : Plane) (e : Vector) (x u v : Spot) (k : LineKey) (wx : pos 0 <ℤ x.w) (wu : pos 0 <ℤ u.w)
    (wv : pos 0 <ℤ v.w) (directed : direction k ≢ zero_v) (on_u : IsOnLine k u) (on_v : IsOnLine k v) where
  abbrev way : Vector
  way = displacement u v

  abbrev along : ℤ
  along = dot (direction k) way

  -- the way between them is parallel to the direction
  parallel : Parallel way (direction k)
  parallel =
      vector_identity (tuple ∷ tuple ∷ vector ∷ [])
      (λ u v d. crossE (displacementE u v) d ≈v minusE (scaleE u.w (crossE (vector_partE v) d))
      (scaleE v.w (crossE (vector_partE u) d))) cancels_v (spot_tuple u) (spot_tuple v) (direction k)
      ∙ (λ i. minus_v (scale_v u.w (on_v i)) (scale_v v.w (on_u i)))
      ∙ vector_identity (scalar ∷ scalar ∷ vector ∷ [])
      (λ a b m. minusE (scaleE a (scaleE b m)) (scaleE b (scaleE a m)) ≈v zeroE) cancels_v u.w v.w (moment k)

  -- the turn of the direction at u
  turn_at_point : area n (displacement x u) (direction k) ≡ u.w *ℤ turn_of_line n x k
  unfolding area
  turn_at_point =
      identity (vector ∷ tuple ∷ tuple ∷ vector ∷ [])
      (λ n x u d. detE n (displacementE x u) d ≈ x.w ⊗ dotE n (crossE (vector_partE u) d) ⊖ u.w ⊗ dotE n
      (crossE (vector_partE x) d)) cancels (normal n) (spot_tuple x) (spot_tuple u) (direction k)
      ∙ (λ i. x.w *ℤ dot (normal n) (on_u i) -ℤ u.w *ℤ dot (normal n) (cross (numerators x) (direction k)))
      ∙ identity (vector ∷ vector ∷ scalar ∷ scalar ∷ scalar ∷ [])
      (λ n m a b c. a ⊗ dotE n (scaleE b m) ⊖ b ⊗ c ≈ b ⊗ (a ⊗ dotE n m ⊖ c)) cancels (normal n) (moment k) x.w u.w
      (dot (normal n) (cross (numerators x) (direction k)))

  -- an area with the way is one with the direction, times how far the way runs along it
  area_along : (a : Vector) → sgn (area n a way) ≡ times (sgn along) (sgn (area n a (direction k)))
  area_along a =
      let d = direction k in let b = cross (normal n) a in
      let e = parallel_products d b d way (parallel_swap way d parallel) in
      sym (sgn_scaled (area n a way) (square_positive d directed))
      ∙ ap sgn (ap (λ (z : ℤ). dot d d *ℤ z) (area_dot n a way) ∙ e
      ∙ ap (λ (z : ℤ). dot d way *ℤ z) (sym (area_dot n a d))) ∙ sgn-mul (dot d way) (area n a d)

  turn_signs : sgn (turn_at n x u v) ≡ times (sgn along) (sgn (turn_of_line n x k))
  turn_signs =
      turn_sign n x u v wx wu ∙ area_along (displacement x u)
      ∙ ap (λ (s : Sign). times (sgn along) s) (ap sgn turn_at_point ∙ sgn_scaled (turn_of_line n x k) wu)

  step_signs : T (may_sum (sgn (height n e x v)) (flip (sgn (height n e x u))) (times (sgn along) (sgn (climb_of_line n e k))))
  step_signs =
      let hu = height n e x u in let hv = height n e x v in
      let a = sgn_scaled hv wu in let b = sgn-neg (v.w *ℤ hu) ∙ ap flip (sgn_scaled hu wv) in
      let c = step_sign n e x u v wx ∙ area_along e in
      may_sums a b c (sum_may (u.w *ℤ hv) (neg_ℤ (v.w *ℤ hu)))

  -- the ray passes the way as the line says, if neither end is level with it
  pub passing_by_line : height n e x u ≢ pos 0 → height n e x v ≢ pos 0 → passing_at n e x u v ≡ below_on n e x k u -ℤ below_on n e x k v
  passing_by_line nu nv =
      let hu = height n e x u in let hv = height n e x v in
      ap (λ (s : Sign). passing (sgn hu) (sgn hv) s) turn_signs
      ∙ passing_on_line (sgn hu) (sgn hv) (sgn along) (sgn (turn_of_line n x k)) (sgn (climb_of_line n e k))
      (both _ _ (not_null hu nu) (both _ _ (not_null hv nv) step_signs))
      ∙ picked_difference (meets_line n e x k) (below (sgn hu)) (below (sgn hv))
