-- The sides of a triangle that faces front, as a ray from a point of its plane passes them: once in sum if the point is inside.
use Rattle.std.proofs.Common.{◌≡◌, ◌≢◌, sym, ap, ◌∙◌, arith, Bool, true, false, not, T, ◌&&◌, ℤ, pos, ◌+ℤ◌, ◌*ℤ◌, ◌<ℤ◌}
use lib.Dec.{not_T}
use Rattle.ember_algebra.specs.Vector.{Vector}
use Rattle.ember_algebra.specs.Sign.{sgn, flip, is_pos, is_neg, is_negative}
use Rattle.ember_algebra.proofs.Laws.{linear}
use Rattle.ember_algebra.proofs.Order.{pos_mul, mul_pos_neg}
use Rattle.ember_algebra.proofs.Signs.{◌and◌, both, not_null, zero_sum_from, neg_from_sgn, sgn-neg, is_pos-flip}
use Rattle.ember_model.specs.declared.plane.Plane.{Plane}
use Rattle.ember_model.specs.declared.point.Spot.{Spot}
use Rattle.ember_model.specs.ClearTest.{all_negative}
use Rattle.ember_model.specs.Planes.{value_at}
use Rattle.ember_model.proofs.SignTests.{sgn_scaled}
use Rattle.mesh_certificate.specs.Certificate.Facing.{FacesFront}
use Rattle.ember_meaning.specs.Regions.Meaning.{one_if}
use Rattle.mesh_solid.specs.Winding.TriangleFaces.{side_plane, face_of_points}
use Rattle.mesh_solid.proofs.Passings.{may_triangle, passing_triangle, pick_of_three}
use Rattle.mesh_solid.proofs.Seen.{height, turn_at, passing_at, heights_balance, turns_add, side_value}

-- a side's plane is negative where the side turns left
side_negative : (n : Plane) (x u v : Spot) → pos 0 <ℤ x.w → pos 0 <ℤ u.w → is_pos (sgn (turn_at n x u v)) ≡ is_negative (value_at (side_plane n u v) x)
side_negative n x u v wx wu =
    let g = value_at (side_plane n u v) x in
    ap is_pos (sym (sgn_scaled (turn_at n x u v) wu) ∙ ap sgn (side_value n x u v) ∙ sgn-neg (x.w *ℤ g) ∙ ap flip (sgn_scaled g wx)) ∙ is_pos-flip (sgn g)

-- x is a point of no side's line, and no corner is level with it
pub record IsGeneralTriangle (n : Plane) (e : Vector) (x u v w : Spot) : Type 0 where
  pub height_u : height n e x u ≢ pos 0
  pub height_v : height n e x v ≢ pos 0
  pub height_w : height n e x w ≢ pos 0
  pub turn_uv : turn_at n x u v ≢ pos 0
  pub turn_vw : turn_at n x v w ≢ pos 0
  pub turn_wu : turn_at n x w u ≢ pos 0

module _ (n : Plane) (e : Vector) (x u v w : Spot) (wx : pos 0 <ℤ x.w) (wu : pos 0 <ℤ u.w) (wv : pos 0 <ℤ v.w)
    (ww : pos 0 <ℤ w.w) (front : FacesFront n u v w) (general : IsGeneralTriangle n e x u v w) where
  abbrev uv : ℤ
  uv = turn_at n x u v

  abbrev vw : ℤ
  vw = turn_at n x v w

  abbrev wu' : ℤ
  wu' = turn_at n x w u

  -- the turns aren't all to the right, since their sum is the area
  not_all_right : uv <ℤ pos 0 → vw <ℤ pos 0 → wu' <ℤ pos 0 → ⊥
  not_all_right a b c =
      let s : (w.w *ℤ uv +ℤ u.w *ℤ vw +ℤ v.w *ℤ wu') <ℤ pos 0 = omega (arith, linear, mul_pos_neg ww a, mul_pos_neg wu b, mul_pos_neg wv c) in
      let l = mul_pos_neg wu s in let r = pos_mul (pos_mul wx wx) front.front in let e = turns_add n x u v w in
      omega (arith, linear, l, r, e)

  not_right : T (not (is_neg (sgn uv) and (is_neg (sgn vw) and is_neg (sgn wu'))))
  not_right =
      not_T _ (λ t. let p = both_out _ _ t in let q = both_out _ _ p.1 in not_all_right (neg_from_sgn uv p.0) (neg_from_sgn vw q.0) (neg_from_sgn wu' q.1))
    where
      both_out : (a b : Bool) → T (a and b) → T a × T b
      both_out true b t = (tt, t)
      both_out false b t = absurd t

  may : T (may_triangle (sgn (height n e x u)) (sgn (height n e x v)) (sgn (height n e x w)) (sgn uv) (sgn vw) (sgn wu'))
  may =
      let hu = height n e x u in let hv = height n e x v in let hw = height n e x w in
      both _ _ (not_null hu general.height_u) (both _ _ (not_null hv general.height_v)
      (both _ _ (not_null hw general.height_w)
      (both _ _ (not_null uv general.turn_uv) (both _ _ (not_null vw general.turn_vw)
      (both _ _ (not_null wu' general.turn_wu)
      (both _ _ (zero_sum_from vw hu wu' hv uv hw (heights_balance n e x u v w)) not_right))))))

  -- a ray from a point of the plane passes the sides once in sum if the point is inside, and otherwise not at all
  pub triangle_count : passing_at n e x u v +ℤ passing_at n e x v w +ℤ passing_at n e x w u ≡ one_if (all_negative (face_of_points n u v w).edges x)
  triangle_count =
      let a = side_negative n x u v wx wu in let b = side_negative n x v w wx wv in let c = side_negative n x w u wx ww in
      passing_triangle (sgn (height n e x u)) (sgn (height n e x v)) (sgn (height n e x w)) (sgn uv) (sgn vw) (sgn wu')
      may ∙ pick_of_three (is_pos (sgn uv)) (is_pos (sgn vw)) (is_pos (sgn wu'))
      ∙ (λ i. one_if (a i && (b i && (c i && true))))
