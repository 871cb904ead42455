-- The corners of a surface by their positions: at one position there is one point, before and after the move to the grid.
use Rattle.std.proofs.Common.{◌≡◌, ◌⊎◌, inl, inr, ◌<◌, refl, sym, ap, subst, ◌∙◌, ℕ, zero, suc, ◌+◌, ◌*◌, Bool, true, false, cond, eqb}
use Rattle.std.proofs.Common.{List, [], ◌∷◌, map, Option, Some, None, slice_get, ℤ, pos, negsuc, ◌-ℤ◌, ◌*ℤ◌, ◌<ℤ◌}
use Rattle.std.proofs.lemmas.Bool.{and_parts, cases_eq}
use Rattle.ember_algebra.proofs.Order.{pos_mul}
use Rattle.ember_algebra.proofs.Ring.{◌⊖◌, ◌⊗◌, ◌≈◌, num, solve, cancels}
use Rattle.ember_algebra.proofs.Vectors.{same_v, vector_identity, ◌≈v◌, cancels_v, tuple}
use Rattle.ember_model.specs.declared.point.Spot.{Spot}
use Rattle.ember_model.proofs.SignTests.{zero_out, zero_scaled, clash}
use Rattle.ember_model.proofs.Tuples.{spot_tuple}
use Rattle.ember_model.proofs.Displacements.{displacementE}
use Rattle.ember_meaning.proofs.Displacements.{zeroE}
use Rattle.mesh_grid.specs.declared.grid.grid.Grid.{Grid}
use Rattle.mesh_grid.specs.Grid.Closed.{arc_count, arcs_in, AreClosed, is_same_position, first_at, position_from, position_of}
use Rattle.mesh_grid.specs.Grid.Corners.{corner_from, corner_at}
use Rattle.mesh_grid.specs.Snap.Steps.{IsStep}
use Rattle.mesh_number.specs.Number.Values.{value_of}
use Rattle.mesh_number.proofs.Denominators.{denominator_pos}
use Rattle.mesh_read.specs.declared.surface.surface.Facet.{Facet}
use Rattle.mesh_read.specs.declared.surface.surface.Vertex.{Vertex}
use Rattle.mesh_grid.proofs.Positions.{same_corner_on, same_position-refl}
use Rattle.mesh_written.specs.Closed.{Positions, one_if_edge, edges_between, AreTrianglesClosed}
use Rattle.mesh_tolerance.specs.Files.{point_of_vertex, vertex_from, vertex_at, facet_indices}
use Rattle.mesh_tolerance.proofs.ClosedTriangles.{closed_have_no_odd_sum}
use Rattle.mesh_tolerance.proofs.MovedTriangles.{HaveNoOddSum}
use Rattle.mesh_tolerance.proofs.Numbers.{positive, one_positive, none_is_some}
use Rattle.mesh_tolerance.proofs.SamePoints.{IsSamePoint}

-- ---- closed
-- a triangle with its corners' positions
abbrev pub by_positions : (ℕ → ℕ) → Positions ℕ → Positions ℕ
by_positions position t = record { a = position t.a; b = position t.b; c = position t.c }

-- as many arcs lead from u to v as edges do
arcs_between : (position : ℕ → ℕ) (u v : ℕ) (fs : List Facet) →
    arc_count (record { from = u; to = v }) (arcs_in position fs) ≡ edges_between eqb u v
    (map (by_positions position) (map facet_indices fs))
arcs_between position u v [] = refl
arcs_between position u v (f ∷ fs) =
    let t = by_positions position (facet_indices f) in
    ap (λ (n : ℕ). one_if_edge eqb u v t.a t.b + (one_if_edge eqb u v t.b t.c + (one_if_edge eqb u v t.c t.a + n)))
    (arcs_between position u v fs)

positions_are_closed : (position : ℕ → ℕ) (fs : List Facet) → AreClosed position fs →
    AreTrianglesClosed eqb (map (by_positions position) (map facet_indices fs))
positions_are_closed position fs h = record { each = λ p q. by p q (cases_eq p q) }
  where
    ts : List (Positions ℕ)
    ts = map (by_positions position) (map facet_indices fs)

    by : (p q : ℕ) → (p ≡ q) ⊎ (p ≡ q → ⊥) → edges_between eqb p q ts ≡ edges_between eqb q p ts
    by p q (inl e) = λ i. edges_between eqb (e i) (sym e i) ts
    by p q (inr d) =
        sym (arcs_between position p q fs) ∙ h (record { from = p; to = q }) d ∙ arcs_between position q p fs

pub positions_have_no_odd_sum : (position : ℕ → ℕ) (fs : List Facet) → AreClosed position fs →
    HaveNoOddSum (map (by_positions position) (map facet_indices fs))
positions_have_no_odd_sum position fs h =
    closed_have_no_odd_sum (map (by_positions position) (map facet_indices fs)) (positions_are_closed position fs h)

-- ---- one vertex

pub vertex_weight : (v : Vertex) → pos 0 <ℤ (point_of_vertex v).w
vertex_weight v =
    pos_mul (positive (denominator_pos v.x)) (pos_mul (positive (denominator_pos v.y)) (positive (denominator_pos v.z)))

same_point : (v w : Vertex) → is_same_position v w ≡ true → IsSamePoint (point_of_vertex v) (point_of_vertex w)
same_point v w h =
    let p = and_parts _ _ h in let q = and_parts _ _ p.1 in
    let x = value_of v.x in let y = value_of v.y in let z = value_of v.z in
    let x' = value_of w.x in let y' = value_of w.y in let z' = value_of w.z in
    let a = pos x.denominator in let b = pos y.denominator in let c = pos z.denominator in
    let a' = pos x'.denominator in let b' = pos y'.denominator in let c' = pos z'.denominator in
    let e = zero_out (x.numerator *ℤ a' -ℤ x'.numerator *ℤ a) p.0 in
    let f = zero_out (y.numerator *ℤ b' -ℤ y'.numerator *ℤ b) q.0 in
    let g = zero_out (z.numerator *ℤ c' -ℤ z'.numerator *ℤ c) q.1 in
    let m = negsuc 0 *ℤ ((b *ℤ c) *ℤ (b' *ℤ c')) in let n = negsuc 0 *ℤ ((c *ℤ a) *ℤ (c' *ℤ a')) in
    let o = negsuc 0 *ℤ ((a *ℤ b) *ℤ (a' *ℤ b')) in
    record {
      first = vertex_weight v;
      second = vertex_weight w;
      none = same_v
          (solve 8 (λ a b c a' b' c' x x'. (a ⊗ (b ⊗ c)) ⊗ (x' ⊗ (b' ⊗ c')) ⊖ (a' ⊗ (b' ⊗ c')) ⊗ (x ⊗ (b ⊗ c)) ≈
          (num (negsuc 0) ⊗ ((b ⊗ c) ⊗ (b' ⊗ c'))) ⊗ (x ⊗ a' ⊖ x' ⊗ a)) cancels a b c a' b' c' x.numerator x'.numerator
          ∙ zero_scaled m (x.numerator *ℤ a' -ℤ x'.numerator *ℤ a) e)
          (solve 8 (λ a b c a' b' c' y y'. (a ⊗ (b ⊗ c)) ⊗ (y' ⊗ (c' ⊗ a')) ⊖ (a' ⊗ (b' ⊗ c')) ⊗ (y ⊗ (c ⊗ a)) ≈
          (num (negsuc 0) ⊗ ((c ⊗ a) ⊗ (c' ⊗ a'))) ⊗ (y ⊗ b' ⊖ y' ⊗ b)) cancels a b c a' b' c' y.numerator y'.numerator
          ∙ zero_scaled n (y.numerator *ℤ b' -ℤ y'.numerator *ℤ b) f)
          (solve 8 (λ a b c a' b' c' z z'. (a ⊗ (b ⊗ c)) ⊗ (z' ⊗ (a' ⊗ b')) ⊖ (a' ⊗ (b' ⊗ c')) ⊗ (z ⊗ (a ⊗ b)) ≈
          (num (negsuc 0) ⊗ ((a ⊗ b) ⊗ (a' ⊗ b'))) ⊗ (z ⊗ c' ⊖ z' ⊗ c)) cancels a b c a' b' c' z.numerator z'.numerator
          ∙ zero_scaled o (z.numerator *ℤ c' -ℤ z'.numerator *ℤ c) g);
    }

-- ---- the first vertex at a position

record IsFirst (vs : List Vertex) (i : ℕ) (v : Vertex) : Type 0 where
  vertex : Vertex
  found : slice_get vs i ≡ Some vertex
  same : is_same_position vertex v ≡ true

first_is_there : (v : Vertex) (vs : List Vertex) (i : ℕ) → slice_get vs i ≡ Some v → IsFirst vs (first_at v vs) v
first_is_there v [] i h = absurd (none_is_some h)
first_is_there v (w ∷ ws) i h = by (is_same_position w v) refl i h (first_is_there v ws)
  where
    by : (b : Bool) → is_same_position w v ≡ b → (i : ℕ) → slice_get (w ∷ ws) i ≡ Some v →
        ((j : ℕ) → slice_get ws j ≡ Some v → IsFirst ws (first_at v ws) v) →
        IsFirst (w ∷ ws) (cond b 0 (suc (first_at v ws))) v
    by true e i h next = record { vertex = w; found = refl; same = e }
    by false e zero h next =
        let is : w ≡ v = cc in
        absurd (clash (subst (λ (u : Vertex). is_same_position u v ≡ true) (sym is) (same_position-refl v)) e)
    by false e (suc i) h next =
        let r = next i h in record { vertex = r.vertex; found = r.found; same = r.same }

-- ---- each index
own_point : (u : Spot) → pos 0 <ℤ u.w → IsSamePoint u u
own_point u p = record {
  first = p;
  second = p;
  none = vector_identity (tuple ∷ []) (λ u. displacementE u u ≈v zeroE) cancels_v (spot_tuple u);
}

module _ (g : Grid) (step : IsStep g.step) (vs : List Vertex) (i : ℕ) where
  pub position_is_same_point : IsSamePoint (vertex_at g vs (position_of vs i)) (vertex_at g vs i)
  position_is_same_point = by (slice_get vs i) refl
    where
      by : (o : Option Vertex) → slice_get vs i ≡ o → IsSamePoint (vertex_at g vs (position_from vs i o)) (vertex_from g o)
      by None e =
          subst (λ (o : Option Vertex). IsSamePoint (vertex_from g o) (vertex_from g None)) (sym e)
          (own_point (vertex_from g None) (pos_mul (positive step.denominator_positive) one_positive))
      by (Some v) e =
          let r = first_is_there v vs i e in
          subst (λ (o : Option Vertex). IsSamePoint (vertex_from g o) (point_of_vertex v)) (sym r.found) (same_point r.vertex v r.same)

  pub position_is_same_corner : corner_at g vs (position_of vs i) ≡ corner_at g vs i
  position_is_same_corner = by (slice_get vs i) refl
    where
      by : (o : Option Vertex) → slice_get vs i ≡ o → corner_at g vs (position_from vs i o) ≡ corner_from g o
      by None e = ap (corner_from g) e
      by (Some v) e =
          let r = first_is_there v vs i e in ap (corner_from g) r.found ∙ same_corner_on g r.vertex v step r.same
