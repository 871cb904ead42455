-- Triangles that face the front of their plane: along the main axis their corners turn as they do from the front
use Rattle.std.proofs.Common.{◌≡◌, ◌≢◌, sym, ap, ◌∙◌, arith, ℤ, pos, ◌-ℤ◌, ◌*ℤ◌, ◌<ℤ◌, true, ◌&&◌}
use Rattle.std.proofs.lemmas.Bool.{and_parts}
use Rattle.ember_algebra.specs.Vector.{Vector, zero_v, dot, cross}
use Rattle.ember_algebra.specs.Det.{det3}
use Rattle.ember_algebra.specs.Sign.{sgn, is_pos, is_zero, is_positive}
use Rattle.ember_algebra.proofs.Laws.{linear}
use Rattle.ember_algebra.proofs.Order.{by_sign, pos_mul, square_nonneg, square_pos}
use Rattle.ember_algebra.proofs.Ring.{◌⊕◌, ◌⊖◌, ◌⊗◌, ◌≈◌, solve, cancels}
use Rattle.ember_algebra.proofs.Identities.{orthogonal_parallel, parallel_products}
use Rattle.ember_model.specs.declared.plane.Plane.{Plane}
use Rattle.ember_model.specs.declared.point.Spot.{Spot}
use Rattle.ember_model.specs.declared.point.Axis.{Axis}
use Rattle.ember_model.specs.declared.point.Axis.TheVariants.{X, Y, Z}
use Rattle.ember_model.specs.Planes.{value_at, along, main_axis, unit}
use Rattle.ember_model.specs.Edges.{normal}
use Rattle.ember_model.proofs.SeenCrossings.{main_zero}
use Rattle.ember_model.proofs.SignTests.{sgn_scaled, zero_scaled, zero_times, zero_out, positive_in, positive_out}
use Rattle.ember_model.proofs.SignTests.{positive_nonzero, negative_nonzero}
use Rattle.ember_model.specs.Points.{displacement}
use Rattle.ember_model.proofs.Displacements.{displacement_value}
use Rattle.mesh_certificate.specs.Certificate.Facing.{triangle_normal, turn_along, FacesFront}

-- the determinant of three points of a plane, times the first weight, is the product of two displacements
minor : (ux uy uw vx vy vw wx wy ww : ℤ) → uw *ℤ det3 ux uy uw vx vy vw wx wy ww ≡ (uw *ℤ vx -ℤ vw *ℤ ux) *ℤ
    (uw *ℤ wy -ℤ ww *ℤ uy) -ℤ (uw *ℤ vy -ℤ vw *ℤ uy) *ℤ (uw *ℤ wx -ℤ ww *ℤ ux)
minor =
    solve 9 (λ ux uy uw vx vy vw wx wy ww. uw ⊗ (ux ⊗ (vy ⊗ ww ⊖ vw ⊗ wy) ⊖ uy ⊗ (vx ⊗ ww ⊖ vw ⊗ wx) ⊕ uw ⊗
    (vx ⊗ wy ⊖ vy ⊗ wx)) ≈ (uw ⊗ vx ⊖ vw ⊗ ux) ⊗ (uw ⊗ wy ⊖ ww ⊗ uy) ⊖ (uw ⊗ vy ⊖ vw ⊗ uy) ⊗ (uw ⊗ wx ⊖ ww ⊗ ux))
    cancels

along_x : (v : Vector) → dot (unit X) v ≡ v.x
along_x v = omega (arith, linear)

along_y : (v : Vector) → dot (unit Y) v ≡ v.y
along_y v = omega (arith, linear)

along_z : (v : Vector) → dot (unit Z) v ≡ v.z
along_z v = omega (arith, linear)

both_zero : {a b : ℤ} → a ≡ pos 0 → b ≡ pos 0 → a -ℤ b ≡ pos 0
both_zero p q = omega (arith, linear, p, q)

-- two factors that are moved
moved_factor : (a d u t n : ℤ) → a *ℤ d ≡ (u *ℤ t) *ℤ n → (a *ℤ a) *ℤ d ≡ (u *ℤ n) *ℤ (a *ℤ t)
moved_factor a d u t n e =
    solve 2 (λ a d. (a ⊗ a) ⊗ d ≈ a ⊗ (a ⊗ d)) cancels a d ∙ ap (λ (z : ℤ). a *ℤ z) e
    ∙ solve 4 (λ a u t n. a ⊗ ((u ⊗ t) ⊗ n) ≈ (u ⊗ n) ⊗ (a ⊗ t)) cancels a u t n

positive_square : (p : Plane) (k : Axis) → along p k ≢ pos 0 → pos 0 <ℤ dot (normal p) (normal p)
positive_square p X h =
    let a = square_pos h in let b = square_nonneg p.b in let c = square_nonneg p.c in omega (arith, linear, a, b, c)
positive_square p Y h =
    let a = square_nonneg p.a in let b = square_pos h in let c = square_nonneg p.c in omega (arith, linear, a, b, c)
positive_square p Z h =
    let a = square_nonneg p.a in let b = square_nonneg p.b in let c = square_pos h in omega (arith, linear, a, b, c)

module _ (p : Plane) (u v w : Spot) (positive : pos 0 <ℤ u.w) (zu : value_at p u ≡ pos 0) (zv : value_at p v ≡ pos 0) (zw : value_at p w ≡ pos 0) where
  flat_to : (x : Spot) → value_at p x ≡ pos 0 → dot (normal p) (displacement u x) ≡ pos 0
  flat_to x zx =
      sym (displacement_value p u x) ∙ both_zero (zero_scaled u.w (value_at p x) zx) (zero_scaled x.w (value_at p u) zu)

  parallel : cross (normal p) (triangle_normal u v w) ≡ zero_v
  parallel =
      orthogonal_parallel (normal p) (displacement u v) (displacement u w) (flat_to v zv) (flat_to w zw)

  products : (k : Axis) → along p k *ℤ dot (normal p) (triangle_normal u v w) ≡ (u.w *ℤ turn_along k u v w) *ℤ dot (normal p) (normal p)
  products X =
      ap (λ (z : ℤ). z *ℤ dot (normal p) (triangle_normal u v w)) (sym (along_x (normal p)))
      ∙ parallel_products (unit X) (normal p) (normal p) (triangle_normal u v w) parallel
      ∙ ap (λ (z : ℤ). z *ℤ dot (normal p) (normal p))
      (along_x (triangle_normal u v w) ∙ sym (minor u.y u.z u.w v.y v.z v.w w.y w.z w.w))
  products Y =
      ap (λ (z : ℤ). z *ℤ dot (normal p) (triangle_normal u v w)) (sym (along_y (normal p)))
      ∙ parallel_products (unit Y) (normal p) (normal p) (triangle_normal u v w) parallel
      ∙ ap (λ (z : ℤ). z *ℤ dot (normal p) (normal p))
      (along_y (triangle_normal u v w) ∙ sym (minor u.z u.x u.w v.z v.x v.w w.z w.x w.w))
  products Z =
      ap (λ (z : ℤ). z *ℤ dot (normal p) (triangle_normal u v w)) (sym (along_z (normal p)))
      ∙ parallel_products (unit Z) (normal p) (normal p) (triangle_normal u v w) parallel
      ∙ ap (λ (z : ℤ). z *ℤ dot (normal p) (normal p))
      (along_z (triangle_normal u v w) ∙ sym (minor u.x u.y u.w v.x v.y v.w w.x w.y w.w))

  abbrev k : Axis
  k = main_axis p

  without_normal : along p k ≡ pos 0 → sgn (dot (normal p) (triangle_normal u v w)) ≡ sgn (along p k *ℤ turn_along k u v w)
  without_normal z =
      let a = zero_times p.a (triangle_normal u v w).x (main_zero p X z) in
      let b = zero_times p.b (triangle_normal u v w).y (main_zero p Y z) in
      let c = zero_times p.c (triangle_normal u v w).z (main_zero p Z z) in
      let d : dot (normal p) (triangle_normal u v w) ≡ pos 0 = omega (arith, linear, a, b, c) in
      ap sgn d ∙ sym (ap sgn (zero_times (along p k) (turn_along k u v w) z))

  with_normal : along p k ≢ pos 0 → sgn (dot (normal p) (triangle_normal u v w)) ≡ sgn (along p k *ℤ turn_along k u v w)
  with_normal h =
      sym (sgn_scaled (dot (normal p) (triangle_normal u v w)) (square_pos h))
      ∙ ap sgn (moved_factor (along p k) (dot (normal p) (triangle_normal u v w)) u.w (turn_along k u v w)
      (dot (normal p) (normal p)) (products k))
      ∙ sgn_scaled (along p k *ℤ turn_along k u v w) (pos_mul positive (positive_square p k h))

  seen_from_front : sgn (dot (normal p) (triangle_normal u v w)) ≡ sgn (along p k *ℤ turn_along k u v w)
  seen_from_front =
      by_sign (along p k) (λ l. with_normal (positive_nonzero l)) without_normal (λ l. with_normal (negative_nonzero l))

module _ (p : Plane) (u v w : Spot) (positive : pos 0 <ℤ u.w) where
  -- a triangle that passes the tests faces the front
  pub front_from_tests : is_zero (value_at p u) && (is_zero (value_at p v) && is_zero (value_at p w)) ≡ true →
      is_positive (along p (main_axis p) *ℤ turn_along (main_axis p) u v w) ≡ true → FacesFront p u v w
  front_from_tests on left =
      let a = and_parts (is_zero (value_at p u)) (is_zero (value_at p v) && is_zero (value_at p w)) on in
      let b = and_parts (is_zero (value_at p v)) (is_zero (value_at p w)) a.1 in
      let zu = zero_out (value_at p u) a.0 in let zv = zero_out (value_at p v) b.0 in
      let zw = zero_out (value_at p w) b.1 in
      record { first = zu; second = zv; third = zw; front = positive_out _ (ap is_pos (seen_from_front p u v w positive zu zv zw) ∙ left) }

  -- and one that faces the front passes them
  pub left_from_front : FacesFront p u v w → is_positive (along p (main_axis p) *ℤ turn_along (main_axis p) u v w) ≡ true
  left_from_front f =
      sym (ap is_pos (seen_from_front p u v w positive f.first f.second f.third)) ∙ positive_in f.front
