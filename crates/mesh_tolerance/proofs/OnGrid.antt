-- Points in the user's unit and on the grid: corners are seen alike, and what lies ahead does so there.
use Rattle.std.proofs.Common.{◌≡◌, refl, sym, ap, subst, ◌∙◌, ℕ, List, [], ◌∷◌, map, ℤ, pos, ◌*ℤ◌, ◌<ℤ◌}
use Rattle.std.specs.List.{AllByRecursion}
use Rattle.ember_algebra.specs.Large.{Eventually}
use Rattle.ember_algebra.specs.Vector.{Vector, dot}
use Rattle.ember_algebra.proofs.Large.{eventually_map}
use Rattle.ember_algebra.proofs.Order.{pos_mul}
use Rattle.ember_algebra.proofs.Ring.{◌⊕◌, ◌⊖◌, ◌⊗◌, ◌≈◌, cancels}
use Rattle.ember_algebra.proofs.Vectors.{scalar, vector, tuple, identity, vector_identity, ◌≈v◌, cancels_v, TupleE, dotE, scaleE}
use Rattle.ember_model.specs.declared.point.Axis.{Axis}
use Rattle.ember_model.specs.declared.point.Spot.{Spot}
use Rattle.ember_model.specs.Clear.{AreClear}
use Rattle.ember_model.specs.Meshes.{wind}
use Rattle.ember_model.specs.Points.{offset_by, displacement}
use Rattle.ember_model.proofs.Tuples.{spot_tuple}
use Rattle.ember_model.proofs.Displacements.{displacementE}
use Rattle.ember_law.proofs.Generic.{wind_shifted}
use Rattle.mesh_grid.specs.declared.grid.grid.Grid.{Grid}
use Rattle.mesh_written.specs.Closed.{Positions}
use Rattle.mesh_tolerance.specs.Files.{in_unit, offset_of, on_grid}
use Rattle.mesh_tolerance.specs.Similar.{triangle_placed_by, HasWeights}
use Rattle.mesh_tolerance.specs.Triangles.{faces_of_triangles, with_points}
use Rattle.mesh_tolerance.proofs.MovedTriangles.{HasBothWeights, StaysAhead}
use Rattle.mesh_tolerance.proofs.Similar.{placed_displacement}
use Rattle.mesh_tolerance.proofs.SimilarTriangles.{winds_as_placed, clear_as_placed}

-- ---- weights
pub point_weights : (f : ℕ → Spot) → ((n : ℕ) → pos 0 <ℤ (f n).w) → (ns : List (Positions ℕ)) →
    AllByRecursion HasWeights (map (with_points f) ns)
point_weights f weights [] = tt
point_weights f weights (t ∷ ts) =
    (record { a = weights t.a; b = weights t.b; c = weights t.c }, point_weights f weights ts)

pub both_weights : (from to : ℕ → Spot) → ((n : ℕ) → pos 0 <ℤ (from n).w) → ((n : ℕ) → pos 0 <ℤ (to n).w) →
    (ns : List (Positions ℕ)) → AllByRecursion (HasBothWeights from to) ns
both_weights from to f h [] = tt
both_weights from to f h (t ∷ ts) = (
  record {
    before = record { a = f t.a; b = f t.b; c = f t.c };
    after = record { a = h t.a; b = h t.b; c = h t.c };
  },
  both_weights from to f h ts,
)

-- ---- points
module _ (g : Grid) where
  -- a point of the grid is seen from p on the grid as it is seen from p in the user's unit
  pub seen_in_unit : (p v : Spot) → displacement (on_grid g p) v ≡ displacement p (in_unit g v)
  seen_in_unit p v =
      vector_identity (scalar ∷ scalar ∷ vector ∷ tuple ∷ tuple ∷ []) (λ n m o p v. let there : TupleE = record {
        x = m ⊗ p.x ⊖ o.x ⊗ (n ⊗ p.w);
        y = m ⊗ p.y ⊖ o.y ⊗ (n ⊗ p.w);
        z = m ⊗ p.z ⊖ o.z ⊗ (n ⊗ p.w);
        w = n ⊗ p.w;
      } in let here : TupleE = record {
        x = (v.x ⊕ o.x ⊗ v.w) ⊗ n;
        y = (v.y ⊕ o.y ⊗ v.w) ⊗ n;
        z = (v.z ⊕ o.z ⊗ v.w) ⊗ n;
        w = m ⊗ v.w;
      } in displacementE there v ≈v displacementE p here) cancels_v (pos g.step.numerator) (pos g.step.denominator)
      (offset_of g) (spot_tuple p) (spot_tuple v)

  pub grid_point_is_ahead : (d : Vector) (p v : Spot) → pos 0 <ℤ dot d (displacement p (in_unit g v)) →
      pos 0 <ℤ dot d (displacement (on_grid g p) v)
  grid_point_is_ahead d p v h = subst (λ (w : Vector). pos 0 <ℤ dot d w) (sym (seen_in_unit p v)) h

  module _ (pn : pos 0 <ℤ pos g.step.numerator) (pm : pos 0 <ℤ pos g.step.denominator) where
    pub placed_is_ahead : (d : Vector) (p v : Spot) → pos 0 <ℤ dot d (displacement p v) →
        pos 0 <ℤ dot d (displacement (on_grid g p) (on_grid g v))
    placed_is_ahead d p v h =
        let k = pos g.step.numerator *ℤ pos g.step.denominator in
        let e = ap (dot d) (placed_displacement (pos g.step.numerator) (pos g.step.denominator) (offset_of g) pn pm p v)
        ∙ identity (scalar ∷ vector ∷ vector ∷ []) (λ k d u. dotE d (scaleE k u) ≈ k ⊗ dotE d u) cancels k d
        (displacement p v) in
        subst (λ (z : ℤ). pos 0 <ℤ z) (sym e) (pos_mul (pos_mul pn pm) h)

    -- ---- triangles
    abbrev placed : (ℕ → Spot) → List (Positions ℕ) → List (Positions Spot)
    placed f ns = map (with_points (λ n. on_grid g (f n))) ns

    placed_triangles : (f : ℕ → Spot) (ns : List (Positions ℕ)) →
        map (triangle_placed_by (pos g.step.numerator) (pos g.step.denominator) (offset_of g)) (map (with_points f) ns) ≡ placed f ns
    placed_triangles f [] = refl
    placed_triangles f (t ∷ ts) =
        ap (λ (us : List (Positions Spot)). with_points (λ n. on_grid g (f n)) t ∷ us) (placed_triangles f ts)

    -- around a clear point they wind as they do on the grid near it
    pub wind_on_grid_nearby : (f : ℕ → Spot) → ((n : ℕ) → pos 0 <ℤ (f n).w) → (ns : List (Positions ℕ)) (a : Axis) (p : Spot) →
        pos 0 <ℤ p.w → AreClear (faces_of_triangles (map (with_points f) ns)) p →
        Eventually (λ k. wind a (faces_of_triangles (placed f ns)) (offset_by (on_grid g p) (pos k)) ≡ wind a
        (faces_of_triangles (map (with_points f) ns)) p)
    wind_on_grid_nearby f weights ns a p wp clear =
        let n = pos g.step.numerator in let m = pos g.step.denominator in let o = offset_of g in
        let e = placed_triangles f ns in
        let there = subst (λ (ts : List (Positions Spot)). AreClear (faces_of_triangles ts) (on_grid g p)) e
        (clear_as_placed n m o pn pm (map (with_points f) ns) p clear) in
        let same = ap (λ (ts : List (Positions Spot)). wind a (faces_of_triangles ts) (on_grid g p)) (sym e)
        ∙ winds_as_placed n m o pn pm (map (with_points f) ns) (point_weights f weights ns) a p wp in
        eventually_map (λ k h. sym h ∙ same) (wind_shifted a (on_grid g p) (faces_of_triangles (placed f ns)) (pos_mul pn wp) there)

-- corners stay ahead of q if others stay ahead of p, and each corner is ahead of q where its counterpart is ahead of p
pub stay_ahead_there : {P : Type 0} (from to from' to' : P → Spot) (p q : Spot) →
    ((d : Vector) (n : P) → pos 0 <ℤ dot d (displacement p (from n)) → pos 0 <ℤ dot d (displacement q (from' n))) →
    ((d : Vector) (n : P) → pos 0 <ℤ dot d (displacement p (to n)) → pos 0 <ℤ dot d (displacement q (to' n))) →
    (ts : List (Positions P)) → AllByRecursion (StaysAhead from to p) ts → AllByRecursion (StaysAhead from' to' q) ts
stay_ahead_there from to from' to' p q f g [] h = tt
stay_ahead_there from to from' to' p q f g (t ∷ ts) h =
    let s = h.0 in let d = s.direction in (
      record {
        direction = d;
        a = f d t.a s.a;
        a' = g d t.a s.a';
        b = f d t.b s.b;
        b' = g d t.b s.b';
        c = f d t.c s.c;
        c' = g d t.c s.c';
      },
      stay_ahead_there from to from' to' p q f g ts h.1,
    )
