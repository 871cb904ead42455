-- Planes with one edge have one sign if both are negative at some point.
use Rattle.std.proofs.Common.{◌≡◌, ⊎_elim, ◌∙◌, arith, [], ◌∷◌, ℤ, pos, ◌+ℤ◌, ◌-ℤ◌, ◌*ℤ◌, neg_ℤ, ◌<ℤ◌}
use Rattle.ember_algebra.proofs.Laws.{linear}
use Rattle.ember_algebra.proofs.Ring.{◌⊕◌, ◌⊖◌, ◌⊗◌, neg, num, ◌≈◌, solve, cancels}
use Rattle.ember_algebra.proofs.Vectors.{tuple, identity, TupleE, dotE, crossE}
use Rattle.ember_algebra.proofs.Order.{mul_pos_neg, cancel_lt, zero_product}
use Rattle.ember_model.specs.declared.plane.Plane.{Plane}
use Rattle.ember_model.specs.declared.point.Spot.{Spot}
use Rattle.ember_model.specs.Planes.{value_at}
use Rattle.ember_model.specs.Edges.{IsBefore, position_along}
use Rattle.ember_model.proofs.SignTests.{positive_nonzero}
use Rattle.ember_model.proofs.Tuples.{plane_tuple, spot_tuple, normalE}
use Rattle.ember_poly.specs.Rings.{orientation, edge_direction}
use Rattle.ember_poly.proofs.Planar.{places, both_zero, turnE}
use Rattle.ember_poly.proofs.CutOrientation.{value_difference_by_orientation, pos_factor}
use Rattle.ember_poly.proofs.EdgeEnds.{position_is_value_along}

-- ---- the direction from u to v
abbrev pub toward : Spot → Spot → Plane
toward u v =
    record { a = u.w *ℤ v.x -ℤ v.w *ℤ u.x; b = u.w *ℤ v.y -ℤ v.w *ℤ u.y; c = u.w *ℤ v.z -ℤ v.w *ℤ u.z; d = pos 0 }

abbrev towardE : TupleE → TupleE → TupleE
towardE u v =
    record { x = u.w ⊗ v.x ⊖ v.w ⊗ u.x; y = u.w ⊗ v.y ⊖ v.w ⊗ u.y; z = u.w ⊗ v.z ⊖ v.w ⊗ u.z; w = num (pos 0) }

turn_toward : (n g : Plane) (u v : Spot) → orientation n g (toward u v) ≡ u.w *ℤ position_along n g v -ℤ v.w *ℤ position_along n g u
turn_toward n g u v =
    identity (tuple ∷ tuple ∷ tuple ∷ tuple ∷ [])
    (λ n g u v. turnE n g (towardE u v) ≈ u.w ⊗ dotE (crossE (normalE n) (normalE g)) (normalE v) ⊖ v.w ⊗ dotE
    (crossE (normalE n) (normalE g)) (normalE u)) cancels (plane_tuple n) (plane_tuple g) (spot_tuple u)
    (spot_tuple v)

rising : {a b : ℤ} → a <ℤ b → pos 0 <ℤ (b -ℤ a)
rising l = omega (arith, linear, l)

-- an edge's plane and its direction turn from the support plane
pub turns_toward : (n g : Plane) (u v : Spot) → IsBefore n g u v → pos 0 <ℤ orientation n g (toward u v)
turns_toward n g u v l = rw (turn_toward n g u v) (rising l.before)

-- ---- two planes through u and v
module _ (n g h : Plane) (u v : Spot) (l : IsBefore n g u v) (nu : value_at n u ≡ pos 0) (nv : value_at n v ≡ pos 0)
    (gu : value_at g u ≡ pos 0) (gv : value_at g v ≡ pos 0) (hu : value_at h u ≡ pos 0) (hv : value_at h v ≡ pos 0) where
  parallel : orientation n g h ≡ pos 0
  parallel =
      ⊎_elim (λ z. z) (λ z. absurd (positive_nonzero far z))
      (zero_product (value_difference_by_orientation n g h (edge_direction n g) u v nu nv gu gv
      ∙ rw (both_zero u.w v.w hv hu) (nothing (orientation n (edge_direction n g) g))))
    where
      far : pos 0 <ℤ (u.w *ℤ value_at (edge_direction n g) v -ℤ v.w *ℤ value_at (edge_direction n g) u)
      far = rw (← position_is_value_along n g u, ← position_is_value_along n g v) (rising l.before)

      nothing : (t : ℤ) → neg_ℤ (t *ℤ pos 0) ≡ pos 0
      nothing = solve 1 (λ t. neg (t ⊗ num (pos 0)) ≈ num (pos 0)) cancels

  -- up to factors, their values agree
  agree : (z : Spot) → value_at n z ≡ pos 0 → orientation n g (toward u v) *ℤ (u.w *ℤ value_at h z) ≡ orientation h (toward u v) n *ℤ (u.w *ℤ value_at g z)
  agree z nz =
      let p = toward u v in
      shape (orientation n g p) (orientation h g p) (orientation h p n) u.w z.w (value_at h z) (value_at g z)
      (u.w *ℤ value_at p z -ℤ z.w *ℤ value_at p u) hu gu (both_zero u.w z.w nz nu) other (places n g p h u z)
    where
      turned : (n g h : Plane) → orientation h n g ≡ orientation n g h
      turned n g h = identity (tuple ∷ tuple ∷ tuple ∷ []) (λ n g h. turnE h n g ≈ turnE n g h) cancels (plane_tuple n) (plane_tuple g) (plane_tuple h)

      other : orientation h n g ≡ pos 0
      other = turned n g h ∙ parallel

      shape : (t r s w k x y d : ℤ) {a b c e : ℤ} → a ≡ pos 0 → b ≡ pos 0 → c ≡ pos 0 → e ≡ pos 0 →
          t *ℤ (w *ℤ x -ℤ k *ℤ a) ≡ r *ℤ c +ℤ s *ℤ (w *ℤ y -ℤ k *ℤ b) +ℤ e *ℤ d → t *ℤ (w *ℤ x) ≡ s *ℤ (w *ℤ y)
      shape t r s w k x y d {a} {b} {c} {e} ea eb ec ee q =
          solve 4 (λ t w k x. t ⊗ (w ⊗ x) ≈ t ⊗ (w ⊗ x ⊖ k ⊗ num (pos 0))) cancels t w k x
          ∙ rw (← ea) (q ∙ rw (eb, ec, ee) (solve 6
          (λ r s w k y d. r ⊗ num (pos 0) ⊕ s ⊗ (w ⊗ y ⊖ k ⊗ num (pos 0)) ⊕ num (pos 0) ⊗ d ≈ s ⊗ (w ⊗ y)) cancels r s
          w k y d))

  pub same_side : (o q : Spot) → pos 0 <ℤ u.w → value_at n o ≡ pos 0 → value_at n q ≡ pos 0 → value_at g o <ℤ pos 0 →
      value_at h o <ℤ pos 0 → value_at g q <ℤ pos 0 → value_at h q <ℤ pos 0
  same_side o q w flat_o flat_q go ho gq =
      let t = turns_toward n g u v l in
      let up = (pos_factor (mul_pos_neg w go) (mul_pos_neg t (mul_pos_neg w ho)) (backward (agree o flat_o))) in
      negative w (negative t (below (agree q flat_q) (mul_pos_neg up (mul_pos_neg w gq))))
    where
      backward : {a b : ℤ} → a ≡ b → b ≡ a
      backward e = omega (arith, linear, e)

      below : {a b : ℤ} → a ≡ b → b <ℤ pos 0 → a <ℤ pos 0
      below e l = omega (arith, linear, e, l)

      negative : {k x : ℤ} → pos 0 <ℤ k → (k *ℤ x) <ℤ pos 0 → x <ℤ pos 0
      negative {k} {x} p l = cancel_lt p (rw (solve 1 (λ k. k ⊗ num (pos 0) ≈ num (pos 0)) cancels k) l)
