-- Outside its moves, a closed surface winds around a point as it does on the grid near that point.
use Rattle.std.proofs.Common.{◌≡◌, refl, sym, ap, subst, ◌∙◌, ℕ, ◌+◌, ◌^◌, List, [], ◌∷◌, map, pos, ◌+ℤ◌, ◌*ℤ◌, ◌<ℤ◌}
use Rattle.std.specs.List.{All, AllByRecursion}
use Rattle.std.proofs.lemmas.List.Elements.{All-head, All-tail}
use Rattle.ember_algebra.specs.Large.{Eventually}
use Rattle.ember_algebra.specs.Sums.{total}
use Rattle.ember_algebra.specs.Vector.{dot}
use Rattle.ember_algebra.proofs.Large.{eventually_both, eventually_map}
use Rattle.ember_algebra.proofs.Order.{pos_mul}
use Rattle.ember_model.specs.declared.point.Axis.{Axis}
use Rattle.ember_model.specs.declared.point.Spot.{Spot}
use Rattle.ember_model.specs.Meshes.{wind, faces_of}
use Rattle.ember_model.specs.Owners.{spot_of_corner}
use Rattle.ember_model.specs.Points.{offset_by, displacement}
use Rattle.ember_law.proofs.Shifted.{weight_shifted, eventually_true}
use Rattle.mesh_grid.specs.declared.grid.grid.Grid.{Grid}
use Rattle.mesh_grid.specs.Grid.Closed.{position_of, IsSurfaceClosed}
use Rattle.mesh_grid.specs.Grid.Corners.{corner_at}
use Rattle.mesh_grid.specs.Moves.Shown.{greatest_move}
use Rattle.mesh_grid.specs.Snap.Steps.{IsStep}
use Rattle.mesh_read.specs.declared.surface.surface.Surface.{Surface}
use Rattle.mesh_read.specs.declared.surface.surface.Vertex.{Vertex}
use Rattle.mesh_scene.specs.Scene.Images.{images_on}
use Rattle.mesh_written.specs.Closed.{Positions}
use Rattle.mesh_tolerance.specs.Files.{in_unit, offset_of, on_grid, vertex_at, facet_indices, surface_triangles, windings, IsOutsideMoves}
use Rattle.mesh_tolerance.specs.Triangles.{faces_of_triangles, with_points}
use Rattle.mesh_tolerance.proofs.GridTriangles.{images_are_seen}
use Rattle.mesh_tolerance.proofs.MovedSurfaces.{all_stay_ahead}
use Rattle.mesh_tolerance.proofs.MovedTriangles.{StaysAhead, wind_alike_nearby}
use Rattle.mesh_tolerance.proofs.Numbers.{positive, one_positive}
use Rattle.mesh_tolerance.proofs.OnGrid.{point_weights, both_weights, grid_point_is_ahead, placed_is_ahead, wind_on_grid_nearby, stay_ahead_there}
use Rattle.mesh_tolerance.proofs.SamePoints.{IsSamePoint, scaled_none, same_point_back, same_points_are_seen_alike, same_point_is_ahead}
use Rattle.mesh_tolerance.proofs.SceneWindings.{grid_windings}
use Rattle.mesh_tolerance.proofs.SeenTriangles.{crossing_from, wind_is_seen}
use Rattle.mesh_tolerance.proofs.Similar.{placed_displacement}
use Rattle.mesh_tolerance.proofs.SurfaceMoves.{grid_corner, weight_at, surface_moves}
use Rattle.mesh_tolerance.proofs.SurfacePositions.{by_positions, positions_have_no_odd_sum, position_is_same_point, position_is_same_corner}

module _ (g : Grid) (step : IsStep g.step) where
  pn : pos 0 <ℤ pos g.step.numerator
  pn = positive step.numerator_positive

  pm : pos 0 <ℤ pos g.step.denominator
  pm = positive step.denominator_positive

  -- one point is one point on the grid
  same_point_on_grid : (u v : Spot) → IsSamePoint u v → IsSamePoint (on_grid g u) (on_grid g v)
  same_point_on_grid u v h = record {
    first = pos_mul pn h.first;
    second = pos_mul pn h.second;
    none = placed_displacement (pos g.step.numerator) (pos g.step.denominator) (offset_of g) pn pm u v
        ∙ scaled_none (pos g.step.numerator *ℤ pos g.step.denominator) h.none;
  }

  module _ (s : Surface) (closed : IsSurfaceClosed s) where
    abbrev vs : List Vertex
    vs = s.vertices.items

    abbrev ns : List (Positions ℕ)
    ns = map facet_indices s.facets.items

    abbrev position : ℕ → ℕ
    position n = position_of vs n

    abbrev placed : ℕ → Spot
    placed n = on_grid g (vertex_at g vs n)

    abbrev corner : ℕ → Spot
    corner n = grid_corner g step vs n

    same_placed : (n : ℕ) → IsSamePoint (placed (position n)) (placed n)
    same_placed n = same_point_on_grid (vertex_at g vs (position n)) (vertex_at g vs n) (position_is_same_point g step vs n)

    same_corner : (n : ℕ) → corner (position n) ≡ corner n
    same_corner n = ap spot_of_corner (position_is_same_corner g step vs n)

    placed_weight : (n : ℕ) → pos 0 <ℤ (placed n).w
    placed_weight n = pos_mul pn (weight_at g step vs n)

    corner_weight : (n : ℕ) → pos 0 <ℤ (corner n).w
    corner_weight n = one_positive

    -- ---- triangles by their positions
    abbrev positioned : List (Positions ℕ) → List (Positions ℕ)
    positioned ts = map (by_positions position) ts

    same_corners : (a : Axis) (p : Spot) (ts : List (Positions ℕ)) →
        total (crossing_from a p) (map (with_points corner) ts) ≡ total (crossing_from a p)
        (map (with_points corner) (positioned ts))
    same_corners a p [] = refl
    same_corners a p (t ∷ ts) =
        let x = same_corner t.a in let y = same_corner t.b in let z = same_corner t.c in
        let r = same_corners a p ts in
        sym (λ i. crossing_from a p (record { a = x i; b = y i; c = z i }) +ℤ sym r i)

    same_vertices : (a : Axis) (p : Spot) (ts : List (Positions ℕ)) →
        total (crossing_from a p) (map (with_points placed) (positioned ts)) ≡ total (crossing_from a p)
        (map (with_points placed) ts)
    same_vertices a p [] = refl
    same_vertices a p (t ∷ ts) =
        let e = same_points_are_seen_alike a p (placed (position t.a)) (placed (position t.b)) (placed (position t.c))
        (placed t.a) (placed t.b) (placed t.c) (same_placed t.a) (same_placed t.b) (same_placed t.c) in
        let r = same_vertices a p ts in λ i. e i +ℤ r i

    ahead_by_positions : (p : Spot) (ts : List (Positions ℕ)) →
        AllByRecursion (StaysAhead (λ n. placed (position n)) (λ n. corner (position n)) p) ts →
        AllByRecursion (StaysAhead placed corner p) (positioned ts)
    ahead_by_positions p [] h = tt
    ahead_by_positions p (t ∷ ts) h =
        let s = h.0 in (
          record {
            direction = s.direction;
            a = s.a;
            a' = s.a';
            b = s.b;
            b' = s.b';
            c = s.c;
            c' = s.c';
          },
          ahead_by_positions p ts h.1,
        )

    -- ---- near a point
    module _ (p : Spot) (wp : pos 0 <ℤ p.w) (out : IsOutsideMoves g p s) where
      abbrev here : Spot
      here = on_grid g p

      stays_ahead : AllByRecursion (StaysAhead placed corner here) (positioned ns)
      stays_ahead =
          let move = greatest_move g s in
          let there = λ (n : ℕ). in_unit g (corner n) in
          ahead_by_positions here ns (stay_ahead_there (vertex_at g vs) there (λ n. placed (position n))
          (λ n. corner (position n)) p here
          (λ d n h. same_point_is_ahead d here (placed n) (placed (position n))
          (same_point_back (placed (position n)) (placed n) (same_placed n))
          (placed_is_ahead g pn pm d p (vertex_at g vs n) h))
          (λ d n h. subst (λ (c : Spot). pos 0 <ℤ dot d (displacement here c)) (sym (same_corner n))
          (grid_point_is_ahead g d p (corner n) h)) ns
          (all_stay_ahead move.size (10 ^ move.places) (vertex_at g vs) there p ns (surface_moves g step s) out.far))

      pub surface_winds_nearby : (a : Axis) (mesh : ℕ) →
          Eventually (λ k. wind a (faces_of (images_on g mesh s)) (offset_by here (pos k)) ≡ wind a
          (faces_of_triangles (surface_triangles g s)) p)
      surface_winds_nearby a mesh =
          eventually_map (λ k h. let q = offset_by here (pos k) in
          images_are_seen (corner_at g vs) mesh a q h.0 s.facets.items ∙ same_corners a q ns
          ∙ sym (wind_is_seen a q (map (with_points corner) (positioned ns)) h.0
          (point_weights corner corner_weight (positioned ns))) ∙ h.1.0
          ∙ wind_is_seen a q (map (with_points placed) (positioned ns)) h.0
          (point_weights placed placed_weight (positioned ns)) ∙ same_vertices a q ns
          ∙ sym (wind_is_seen a q (map (with_points placed) ns) h.0 (point_weights placed placed_weight ns)) ∙ h.1.1)
          (eventually_both (weight_shifted here (pos_mul pn wp))
          (eventually_both (wind_alike_nearby placed corner a here (positioned ns) (pos_mul pn wp)
          (positions_have_no_odd_sum position s.facets.items closed)
          (both_weights placed corner placed_weight corner_weight (positioned ns)) stays_ahead)
          (wind_on_grid_nearby g pn pm (vertex_at g vs) (weight_at g step vs) ns a p wp out.clear)))

  -- ---- all surfaces
  pub surfaces_wind_nearby : (a : Axis) (p : Spot) → pos 0 <ℤ p.w → (mesh : ℕ) (ss : List Surface) →
      All IsSurfaceClosed ss → AllByRecursion (IsOutsideMoves g p) ss →
      Eventually (λ k. grid_windings a g mesh ss (offset_by (on_grid g p) (pos k)) ≡ windings a g ss p)
  surfaces_wind_nearby a p wp mesh [] closed out = eventually_true (λ k. refl)
  surfaces_wind_nearby a p wp mesh (s ∷ ss) closed out =
      eventually_map (λ k h. λ i. h.0 i ∷ h.1 i)
      (eventually_both (surface_winds_nearby s (All-head IsSurfaceClosed s ss closed) p wp out.0 a mesh)
      (surfaces_wind_nearby a p wp (mesh + 1) ss (All-tail IsSurfaceClosed s ss closed) out.1))
