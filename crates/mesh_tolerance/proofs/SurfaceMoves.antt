-- The corners of a surface move to the grid by at most the length that is shown.
use Rattle.std.proofs.Common.{◌≡◌, ◌≤◌, ◌<◌, ap, arith, sym, subst, ◌∙◌, le_refl, ℕ, ◌+◌, ◌*◌, ◌/◌, ◌^◌, max, min, mul-le-mul, mul-pos}
use Rattle.std.proofs.Common.{Option, Some, None, List, [], ◌∷◌, map, slice_get, ℤ, pos, ◌+ℤ◌, ◌-ℤ◌, ◌*ℤ◌, neg_ℤ, ◌<ℤ◌, ◌≤ℤ◌, unsigned_abs}
use Rattle.std.specs.List.{All, AllByRecursion}
use Rattle.std.proofs.lemmas.List.Elements.{All-head, All-tail}
use Rattle.std.proofs.lemmas.Int.{unsigned_abs-mul}
use Rattle.std.proofs.Math.Nat.{le_trans, le-max_left, le-max_right}
use Rattle.ember_algebra.specs.Vector.{dot}
use Rattle.ember_algebra.proofs.Laws.{linear}
use Rattle.ember_algebra.proofs.Numbers.{unsigned_abs-neg}
use Rattle.ember_algebra.proofs.Order.{pos_mul, square_nonneg}
use Rattle.ember_algebra.proofs.Ring.{◌⊕◌, ◌⊖◌, ◌⊗◌, ◌≈◌, num, solve, cancels}
use Rattle.ember_algebra.proofs.Vectors.{tuple, identity, dotE}
use Rattle.ember_model.specs.declared.point.Spot.{Spot}
use Rattle.ember_model.specs.Owners.{spot_of_corner}
use Rattle.ember_model.proofs.SignTests.{zero_scaled}
use Rattle.ember_model.proofs.Tuples.{same_spot, spot_tuple}
use Rattle.ember_model.specs.Points.{displacement}
use Rattle.ember_model.proofs.Displacements.{displacementE}
use Rattle.mesh_grid.specs.declared.grid.grid.Grid.{Grid}
use Rattle.mesh_grid.specs.Grid.Corners.{corner_on, corner_from, corner_at}
use Rattle.mesh_grid.specs.Moves.Greatest.{square_of, square_from, square_at, facet_square, greatest_square}
use Rattle.mesh_grid.specs.Moves.Moves.{scaled_distance, fineness_of, ticks_of}
use Rattle.mesh_grid.specs.Moves.Shown.{ticks_in_unit, length_of, greatest_move}
use Rattle.mesh_grid.specs.Snap.Cells.{cell_of, cell_at}
use Rattle.mesh_grid.specs.Snap.Steps.{IsStep}
use Rattle.mesh_grid.proofs.AxisMoves.{ticks_not_below}
use Rattle.mesh_grid.proofs.GreatestSquares.{none_is_greater}
use Rattle.mesh_grid.proofs.Lengths.{length_not_below}
use Rattle.mesh_number.specs.Float.Binary32.{distance}
use Rattle.mesh_number.specs.Number.Fractions.{Fraction}
use Rattle.mesh_number.specs.Number.Values.{value_of}
use Rattle.mesh_number.proofs.Denominators.{denominator_pos}
use Rattle.mesh_read.specs.declared.surface.surface.Facet.{Facet}
use Rattle.mesh_read.specs.declared.surface.surface.Surface.{Surface}
use Rattle.mesh_read.specs.declared.surface.surface.Vertex.{Vertex}
use Rattle.mesh_tolerance.specs.Distances.{square, IsWithin}
use Rattle.mesh_tolerance.specs.Files.{in_unit, point_of_vertex, vertex_from, vertex_at, facet_indices}
use Rattle.mesh_tolerance.specs.Moves.{MovesWithin, CornersMoveWithin}
use Rattle.mesh_tolerance.proofs.AxisTicks.{point_is_within}
use Rattle.mesh_tolerance.proofs.Numbers.{positive, one_positive}
use Rattle.mesh_tolerance.proofs.SurfacePositions.{vertex_weight}

-- ---- distances
-- as far back
within_back : (size unit : ℕ) (u v : Spot) → IsWithin size unit u v → IsWithin size unit v u
within_back size unit u v h =
    let e = identity (tuple ∷ tuple ∷ []) (λ u v. dotE (displacementE v u) (displacementE v u) ≈ dotE (displacementE u v)
    (displacementE u v)) cancels (spot_tuple u) (spot_tuple v) in
    let f = solve 3 (λ u v s. (v ⊗ u ⊗ s) ⊗ (v ⊗ u ⊗ s) ≈ (u ⊗ v ⊗ s) ⊗ (u ⊗ v ⊗ s)) cancels u.w v.w (pos size) in
    record {
      within = subst (λ (z : ℤ). (square (pos unit) *ℤ z) ≤ℤ square (v.w *ℤ u.w *ℤ pos size)) (sym e)
          (subst (λ (z : ℤ). (square (pos unit) *ℤ dot (displacement u v) (displacement u v)) ≤ℤ z) (sym f) h.within);
    }

own_within : (size unit : ℕ) (u : Spot) → IsWithin size unit u u
own_within size unit u =
    let e = identity (tuple ∷ []) (λ u. dotE (displacementE u u) (displacementE u u) ≈ num (pos 0)) cancels (spot_tuple u) in
    let z = zero_scaled (square (pos unit)) (dot (displacement u u) (displacement u u)) e in
    let q = square_nonneg (u.w *ℤ u.w *ℤ pos size) in
    record { within = omega (arith, linear, z, q) }

turned_size : (y z : ℤ) → unsigned_abs (y -ℤ z) ≡ unsigned_abs (z -ℤ y)
turned_size y z =
    let e : y -ℤ z ≡ neg_ℤ (z -ℤ y) = omega (arith, linear) in ap unsigned_abs e ∙ unsigned_abs-neg (z -ℤ y)

-- ---- numbers
carried : (d f x s w t : ℕ) → 2 * x ≡ s → f * s ≤ w * t → 2 * (d * f) * x ≤ d * w * 1 * t
carried d f x s w t e h =
    let m : d * (f * s) ≤ d * (w * t) = mul-le-mul (le_refl d) h in let g = ap (λ (n : ℕ). d * (f * n)) e in
    omega (arith, m, g)

in_single_units : (q u m : ℕ) → q * (u * u) ≤ m → q * (1 * u * (1 * u)) ≤ m
in_single_units q u m h = omega (arith, h)

module _ (g : Grid) (step : IsStep g.step) where
  abbrev fineness : ℕ
  fineness = fineness_of g.step

  fineness_positive : 0 < fineness
  fineness_positive =
      let h : 1 ≤ fineness = le-max_right (min (10 ^ 12 / g.step.denominator) (2 ^ 61 / g.step.numerator)) 1 in
      omega (arith, h)

  abbrev under : ℕ
  under = ticks_in_unit g.step fineness

  under_positive : 0 < under
  under_positive = mul-pos (omega arith) (mul-pos step.denominator_positive fineness_positive)

  -- ---- one axis
  -- twice the distance of a cell from the number
  distance_is : (v : Fraction) → 2 * distance (cell_of g.step v *ℤ pos g.step.numerator) g.step.denominator v ≡ scaled_distance g.step v
  distance_is v =
      let c = cell_of g.step v in let n = pos g.step.numerator in let d = pos g.step.denominator in
      let w = pos v.denominator in
      sym (unsigned_abs-mul (pos 2) ((c *ℤ n) *ℤ w -ℤ v.numerator *ℤ d))
      ∙ ap unsigned_abs (solve 5 (λ c n d w x. num (pos 2) ⊗ ((c ⊗ n) ⊗ w ⊖ x ⊗ d) ≈ (w ⊗ (num (pos 2) ⊗ n)) ⊗ c ⊖
      (num (pos 2) ⊗ d) ⊗ x) cancels c n d w v.numerator)
      ∙ turned_size ((w *ℤ (pos 2 *ℤ n)) *ℤ c) ((pos 2 *ℤ d) *ℤ v.numerator)

  ticks_within : (v : Fraction) → 0 < v.denominator →
      under * distance (cell_of g.step v *ℤ pos g.step.numerator) g.step.denominator v ≤ g.step.denominator * v.denominator * 1
      * ticks_of g.step fineness v
  ticks_within v p =
      carried g.step.denominator fineness (distance (cell_of g.step v *ℤ pos g.step.numerator) g.step.denominator v)
      (scaled_distance g.step v) v.denominator (ticks_of g.step fineness v) (distance_is v)
      (ticks_not_below g.step fineness v p)

  -- ---- one vertex
  -- where it is on the grid, in the user's unit
  abbrev cells : Vertex → Spot
  cells v = record {
    x = cell_at g.step v.x *ℤ pos g.step.numerator;
    y = cell_at g.step v.y *ℤ pos g.step.numerator;
    z = cell_at g.step v.z *ℤ pos g.step.numerator;
    w = pos g.step.denominator;
  }

  cell_point : (v : Vertex) → in_unit g (spot_of_corner (corner_on g v)) ≡ cells v
  cell_point v =
      let n = pos g.step.numerator in
      same_spot (back (cell_at g.step v.x) g.offset.x n) (back (cell_at g.step v.y) g.offset.y n)
      (back (cell_at g.step v.z) g.offset.z n) (solve 1 (λ d. d ⊗ num (pos 1) ≈ d) cancels (pos g.step.denominator))
    where
      back : (c o n : ℤ) → ((c -ℤ o) +ℤ o *ℤ pos 1) *ℤ n ≡ c *ℤ n
      back = solve 3 (λ c o n. ((c ⊖ o) ⊕ o ⊗ num (pos 1)) ⊗ n ≈ c ⊗ n) cancels

  vertex_is_near : (v : Vertex) (greatest : ℕ) → square_of g.step fineness v ≤ greatest →
      IsWithin (length_of g.step fineness greatest).size (10 ^ (length_of g.step fineness greatest).places)
      (point_of_vertex v) (in_unit g (spot_of_corner (corner_on g v)))
  unfolding cell_at
  vertex_is_near v greatest h =
      let size = (length_of g.step fineness greatest).size in
      let unit = 10 ^ (length_of g.step fineness greatest).places in
      let x = value_of v.x in let y = value_of v.y in let z = value_of v.z in
      let dx = denominator_pos v.x in let dy = denominator_pos v.y in let dz = denominator_pos v.z in
      let n = pos g.step.numerator in
      let r = ticks_of g.step fineness x in let s = ticks_of g.step fineness y in let t = ticks_of g.step fineness z in
      let less : (r * r + (s * s + t * t)) * (unit * unit) ≤ greatest * (unit * unit) = mul-le-mul h (le_refl (unit * unit)) in
      let limit = length_not_below greatest under under_positive in
      let there = in_unit g (spot_of_corner (corner_on g v)) in
      within_back size unit there (point_of_vertex v)
      (subst (λ (u : Spot). IsWithin size unit u (point_of_vertex v)) (sym (cell_point v))
      (point_is_within under 1 g.step.denominator size unit (cell_of g.step x *ℤ n) (cell_of g.step y *ℤ n)
      (cell_of g.step z *ℤ n) x y z r s t (positive under_positive) (ticks_within x dx) (ticks_within y dy)
      (ticks_within z dz)
      (in_single_units (r * r + (s * s + t * t)) unit (under * size * (under * size)) (le_trans less limit))))

  -- ---- all triangles
  -- the corner with this index on the grid
  abbrev pub grid_corner : List Vertex → ℕ → Spot
  grid_corner vs n = spot_of_corner (corner_at g vs n)

  pub weight_at : (vs : List Vertex) (n : ℕ) → pos 0 <ℤ (vertex_at g vs n).w
  weight_at vs n = by (slice_get vs n)
    where
      by : (o : Option Vertex) → pos 0 <ℤ (vertex_from g o).w
      by None = pos_mul (positive step.denominator_positive) one_positive
      by (Some v) = vertex_weight v

  module _ (vs : List Vertex) (greatest : ℕ) where
    abbrev size : ℕ
    size = (length_of g.step fineness greatest).size

    abbrev unit : ℕ
    unit = 10 ^ (length_of g.step fineness greatest).places

    one_moves : (n : ℕ) → square_at g.step fineness vs n ≤ greatest →
        MovesWithin size unit (vertex_at g vs) (λ n. in_unit g (grid_corner vs n)) n
    one_moves n h = record {
      weight = weight_at vs n;
      weight_after = pos_mul (positive step.denominator_positive) one_positive;
      within = near (slice_get vs n) h;
    }
      where
        near : (o : Option Vertex) → square_from g.step fineness o ≤ greatest →
            IsWithin size unit (vertex_from g o) (in_unit g (spot_of_corner (corner_from g o)))
        near None h = own_within size unit (in_unit g (spot_of_corner (corner_from g None)))
        near (Some v) h = vertex_is_near v greatest h

    facets_move : (fs : List Facet) → All (λ f. facet_square g.step fineness vs f ≤ greatest) fs →
        AllByRecursion (CornersMoveWithin size unit (vertex_at g vs) (λ n. in_unit g (grid_corner vs n))) (map facet_indices fs)
    facets_move [] less = tt
    facets_move (f ∷ fs) less =
        let l = All-head (λ f. facet_square g.step fineness vs f ≤ greatest) f fs less in let t = facet_indices f in
        let i = square_at g.step fineness vs t.a in let j = square_at g.step fineness vs t.b in
        let k = square_at g.step fineness vs t.c in
        let h : max (max i j) k ≤ greatest = l in
        let x = le-max_left i j in let y = le-max_right i j in let z = le-max_left (max i j) k in
        let q = le-max_right (max i j) k in (
          record {
            a = one_moves t.a (le_trans x (le_trans z h));
            b = one_moves t.b (le_trans y (le_trans z h));
            c = one_moves t.c (le_trans q h);
          },
          facets_move fs (All-tail (λ f. facet_square g.step fineness vs f ≤ greatest) f fs less),
        )

  pub surface_moves : (s : Surface) →
      AllByRecursion (CornersMoveWithin (greatest_move g s).size (10 ^ (greatest_move g s).places)
      (vertex_at g s.vertices.items) (λ n. in_unit g (grid_corner s.vertices.items n))) (map facet_indices s.facets.items)
  unfolding greatest_move
  surface_moves s =
      let vs = s.vertices.items in let fs = s.facets.items in
      facets_move vs (greatest_square g.step fineness vs fs) fs (none_is_greater g.step fineness vs fs)
