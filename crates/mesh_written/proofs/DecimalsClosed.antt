-- Triangles of decimals are closed if the triangles before rounding are, by their points and by the indices of their
-- vertices
use Rattle.std.proofs.Common.{◌≡◌, ◌⊎◌, inl, inr, ℕ, Bool, true, ◌||◌, nat_eq, List, [], ◌∷◌, map, refl, sym, ap, subst}
use Rattle.std.proofs.lemmas.Bool.{or_cases, or_left, or_right, eqb-true, eq-eqb}
use Rattle.mesh_grid.specs.declared.snap.steps.GridStep.{GridStep}
use Rattle.mesh_grid.specs.declared.snap.offsets.Offset.{Offset}
use Rattle.mesh_write.specs.declared.vertices.point.DecimalPoint.{DecimalPoint}
use Rattle.mesh_write.specs.declared.vertices.point.DecimalTriangle.{DecimalTriangle}
use Rattle.mesh_write.specs.Vertices.Vertices.{same_point, vertices_of, index_of, indexed, point_at}
use Rattle.mesh_write.proofs.VertexLists.{same_point_decides}
use Rattle.mesh_point.specs.declared.space_point.SpacePoint.{SpacePoint}
use Rattle.mesh_certificate.specs.declared.certificate.triangle.Triangle.{Triangle}
use Rattle.mesh_written.specs.Decimals.{decimal_point}
use Rattle.mesh_written.specs.DecimalTriangles.{triangle_at, vanishes, kept, decimal_triangles}
use Rattle.mesh_written.specs.Closed.{AreRoundAndClosed, Positions, AreTrianglesClosed, decimal_positions, AreDecimalsClosed, indices_of, AreIndicesClosed}
use Rattle.mesh_written.proofs.Closings.{vanishing, at_positions, map_keeps_closed}

one_point : (p q : DecimalPoint) → same_point p q ≡ true → p ≡ q
one_point p q e = (same_point_decides p q).0 e

-- equal points have one index
one_index : (vs : List DecimalPoint) (p q : DecimalPoint) → same_point p q ≡ true → nat_eq (index_of vs p) (index_of vs q) ≡ true
one_index vs p q e =
    eq-eqb (index_of vs p) (index_of vs q) (ap (λ (r : DecimalPoint). index_of vs r) (one_point p q e))

or_mapped : (a b c d : Bool) → (a ≡ true → c ≡ true) → (b ≡ true → d ≡ true) → (a || b) ≡ true → (c || d) ≡ true
or_mapped a b c d f g h = by (or_cases a b h)
  where
    by : (a ≡ true) ⊎ (b ≡ true) → (c || d) ≡ true
    by (inl e) = or_left c d (f e)
    by (inr e) = or_right c d (g e)

-- a triangle that vanishes has one index twice
vanishes_by_index : (vs : List DecimalPoint) (t : DecimalTriangle) → vanishes t ≡ true → vanishing nat_eq (indices_of (indexed vs t)) ≡ true
vanishes_by_index vs t h =
    or_mapped _ _ _ _ (one_index vs t.a t.b) (or_mapped _ _ _ _ (one_index vs t.b t.c) (one_index vs t.c t.a)) h

module _ (ps : List DecimalPoint) where
  abbrev gone : Triangle → Bool
  gone t = vanishes (triangle_at ps t)

  -- the positions of triangles, by points and by indices
  by_points : (ts : List Triangle) → map decimal_positions (map (triangle_at ps) ts) ≡ map (at_positions (point_at ps)) ts
  by_points [] = refl
  by_points (t ∷ ts) = ap (λ (us : List (Positions DecimalPoint)). at_positions (point_at ps) t ∷ us) (by_points ts)

  abbrev index_at : List DecimalPoint → ℕ → ℕ
  index_at vs number = index_of vs (point_at ps number)

  by_indices : (vs : List DecimalPoint) (ts : List Triangle) → map indices_of (map (indexed vs) (map (triangle_at ps) ts)) ≡ map (at_positions (index_at vs)) ts
  by_indices vs [] = refl
  by_indices vs (t ∷ ts) = ap (λ (us : List (Positions ℕ)). at_positions (index_at vs) t ∷ us) (by_indices vs ts)

  -- what is kept of closed triangles is closed
  points_are_closed : (ts : List Triangle) → AreRoundAndClosed ts → AreDecimalsClosed (map (triangle_at ps) (kept ps ts))
  points_are_closed ts h =
      subst (λ (us : List (Positions DecimalPoint)). AreTrianglesClosed same_point us) (sym (by_points (kept ps ts)))
      (map_keeps_closed same_point (point_at ps) one_point gone (λ t v. v) ts h)

  -- also by the indices of any vertices
  indices_of_kept_closed : (vs : List DecimalPoint) (ts : List Triangle) → AreRoundAndClosed ts →
      AreIndicesClosed (map (indexed vs) (map (triangle_at ps) (kept ps ts)))
  indices_of_kept_closed vs ts h =
      subst (λ (us : List (Positions ℕ)). AreTrianglesClosed nat_eq us) (sym (by_indices vs (kept ps ts)))
      (map_keeps_closed nat_eq (index_at vs) (λ x y e. eqb-true x y e) gone
      (λ t v. vanishes_by_index vs (triangle_at ps t) v) ts h)

-- ---- triangles of a table of corners
pub decimals_are_closed : (places : ℕ) (s : GridStep) (o : Offset) (cs : List SpacePoint) (ts : List Triangle) →
    AreRoundAndClosed ts → AreDecimalsClosed (decimal_triangles places s o cs ts)
decimals_are_closed places s o cs ts h = points_are_closed (map (decimal_point places s o) cs) ts h

pub indices_are_closed : (places : ℕ) (s : GridStep) (o : Offset) (cs : List SpacePoint) (ts : List Triangle) →
    AreRoundAndClosed ts → AreIndicesClosed (map (indexed (vertices_of (decimal_triangles places s o cs ts)))
    (decimal_triangles places s o cs ts))
indices_are_closed places s o cs ts h =
    indices_of_kept_closed (map (decimal_point places s o) cs) (vertices_of (decimal_triangles places s o cs ts)) ts h
