-- Closed triangles whose corners move, but keep ahead of a point, wind around it as before.
use Rattle.std.proofs.Common.{◌≡◌, refl, sym, ◌∙◌, arith, le_refl, List, [], ◌∷◌, map, ℤ, pos, ◌+ℤ◌, ◌-ℤ◌, neg_ℤ, ◌<ℤ◌}
use Rattle.std.specs.List.{AllByRecursion}
use Rattle.ember_algebra.specs.Large.{Eventually}
use Rattle.ember_algebra.specs.Sums.{total}
use Rattle.ember_algebra.specs.Vector.{Vector, dot}
use Rattle.ember_algebra.proofs.Large.{eventually_both, eventually_map}
use Rattle.ember_algebra.proofs.Laws.{linear}
use Rattle.ember_model.specs.declared.point.Axis.{Axis}
use Rattle.ember_model.specs.declared.point.Spot.{Spot}
use Rattle.ember_model.specs.Clear.{AreClear}
use Rattle.ember_model.specs.Meshes.{wind}
use Rattle.ember_model.specs.Points.{offset_by, displacement}
use Rattle.ember_law.proofs.Generic.{wind_shifted}
use Rattle.ember_law.proofs.Shifted.{weight_shifted, eventually_true}
use Rattle.mesh_written.specs.Closed.{Positions}
use Rattle.mesh_tolerance.specs.Similar.{HasWeights}
use Rattle.mesh_tolerance.specs.Triangles.{faces_of_triangles, with_points}
use Rattle.mesh_tolerance.proofs.GeneralSides.{ahead_shifted, wall_shifted}
use Rattle.mesh_tolerance.proofs.Prisms.{wall_crossing, IsGeneralWall, wall_is_odd, prism_is_closed}
use Rattle.mesh_tolerance.proofs.SeenTriangles.{crossing_from, wind_is_seen}

-- ---- closed triangles
-- a quantity of directed edges, round a triangle
abbrev pub around : {P : Type 0} → (P → P → ℤ) → Positions P → ℤ
around f t = f t.a t.b +ℤ f t.b t.c +ℤ f t.c t.a

-- over all edges of the triangles, what changes its sign with the direction cancels
pub record HaveNoOddSum {P : Type 0} (ts : List (Positions P)) : Type 0 where
  pub cancels : (f : P → P → ℤ) → ((u v : P) → f v u ≡ neg_ℤ (f u v)) → total (around f) ts ≡ pos 0

module _ {P : Type 0} (from to : P → Spot) where
  -- ---- one triangle
  -- all its corners have weights above 0, before and after
  pub record HasBothWeights (t : Positions P) : Type 0 where
    pub before : HasWeights (with_points from t)
    pub after : HasWeights (with_points to t)

  -- before and after, the corners lie ahead of p in one direction
  pub record StaysAhead (p : Spot) (t : Positions P) : Type 0 where
    pub direction : Vector
    pub a : pos 0 <ℤ dot direction (displacement p (from t.a))
    pub a' : pos 0 <ℤ dot direction (displacement p (to t.a))
    pub b : pos 0 <ℤ dot direction (displacement p (from t.b))
    pub b' : pos 0 <ℤ dot direction (displacement p (to t.b))
    pub c : pos 0 <ℤ dot direction (displacement p (from t.c))
    pub c' : pos 0 <ℤ dot direction (displacement p (to t.c))

  -- the wall that the way from u to v leaves behind, as seen from p
  abbrev pub wall_from : Axis → Spot → P → P → ℤ
  wall_from a p u v =
      wall_crossing a (displacement p (from u)) (displacement p (to u)) (displacement p (from v)) (displacement p (to v))

  abbrev pub HasGeneralWall : Axis → Spot → P → P → Type 0
  HasGeneralWall a p u v =
      IsGeneralWall a (displacement p (from u)) (displacement p (to u)) (displacement p (from v)) (displacement p (to v))

  pub record IsSeenWell (a : Axis) (p : Spot) (t : Positions P) : Type 0 where
    pub ahead : StaysAhead p t
    pub ab : HasGeneralWall a p t.a t.b
    pub bc : HasGeneralWall a p t.b t.c
    pub ca : HasGeneralWall a p t.c t.a

  -- the difference of a wall and the one the other way round, which changes its sign with the direction of any way
  abbrev skew : Axis → Spot → P → P → ℤ
  skew a p u v = wall_from a p u v -ℤ wall_from a p v u

  skew_is_odd : (a : Axis) (p : Spot) (u v : P) → skew a p v u ≡ neg_ℤ (skew a p u v)
  skew_is_odd a p u v = swapped (wall_from a p u v) (wall_from a p v u)
    where
      swapped : (x y : ℤ) → y -ℤ x ≡ neg_ℤ (x -ℤ y)
      swapped x y = omega (arith, linear)

  -- the change of the crossing, twice
  one_triangle : (a : Axis) (p : Spot) (t : Positions P) → IsSeenWell a p t →
      (crossing_from a p (with_points from t) -ℤ crossing_from a p (with_points to t)) +ℤ
      (crossing_from a p (with_points from t) -ℤ crossing_from a p (with_points to t)) ≡ around (skew a p) t
  one_triangle a p t h =
      let s = h.ahead in let d = s.direction in
      let e = prism_is_closed a d (displacement p (from t.a)) (displacement p (to t.a)) (displacement p (from t.b))
      (displacement p (to t.b)) (displacement p (from t.c)) (displacement p (to t.c)) s.a s.a' s.b s.b' s.c s.c' h.ab h.bc
      h.ca in
      let x = wall_is_odd a d (displacement p (from t.a)) (displacement p (to t.a)) (displacement p (from t.b))
      (displacement p (to t.b)) s.a s.a' s.b s.b' h.ab in
      let y = wall_is_odd a d (displacement p (from t.b)) (displacement p (to t.b)) (displacement p (from t.c))
      (displacement p (to t.c)) s.b s.b' s.c s.c' h.bc in
      let z = wall_is_odd a d (displacement p (from t.c)) (displacement p (to t.c)) (displacement p (from t.a))
      (displacement p (to t.a)) s.c s.c' s.a s.a' h.ca in
      twice (crossing_from a p (with_points from t)) (crossing_from a p (with_points to t)) (wall_from a p t.a t.b)
      (wall_from a p t.b t.c) (wall_from a p t.c t.a) (wall_from a p t.b t.a) (wall_from a p t.c t.b)
      (wall_from a p t.a t.c) e x y z
    where
      twice : (v w f g h f' g' h' : ℤ) → v -ℤ w ≡ f +ℤ g +ℤ h → f' ≡ neg_ℤ f → g' ≡ neg_ℤ g → h' ≡ neg_ℤ h →
          (v -ℤ w) +ℤ (v -ℤ w) ≡ (f -ℤ f') +ℤ (g -ℤ g') +ℤ (h -ℤ h')
      twice v w f g h f' g' h' e x y z = omega (arith, linear, e, x, y, z)

  -- ---- all triangles
  changes : (a : Axis) (p : Spot) (ts : List (Positions P)) → AllByRecursion (IsSeenWell a p) ts →
      (total (crossing_from a p) (map (with_points from) ts) -ℤ total (crossing_from a p) (map (with_points to) ts)) +ℤ
      (total (crossing_from a p) (map (with_points from) ts) -ℤ total (crossing_from a p) (map (with_points to) ts)) ≡
      total (around (skew a p)) ts
  changes a p [] h = refl
  changes a p (t ∷ ts) h =
      more (crossing_from a p (with_points from t)) (crossing_from a p (with_points to t))
      (total (crossing_from a p) (map (with_points from) ts)) (total (crossing_from a p) (map (with_points to) ts))
      (around (skew a p) t) (total (around (skew a p)) ts) (one_triangle a p t h.0) (changes a p ts h.1)
    where
      more : (x y v w f g : ℤ) → (x -ℤ y) +ℤ (x -ℤ y) ≡ f → (v -ℤ w) +ℤ (v -ℤ w) ≡ g →
          ((x +ℤ v) -ℤ (y +ℤ w)) +ℤ ((x +ℤ v) -ℤ (y +ℤ w)) ≡ f +ℤ g
      more x y v w f g e h = omega (arith, linear, e, h)

  same_total : (a : Axis) (p : Spot) (ts : List (Positions P)) → HaveNoOddSum ts → AllByRecursion (IsSeenWell a p) ts →
      total (crossing_from a p) (map (with_points to) ts) ≡ total (crossing_from a p) (map (with_points from) ts)
  same_total a p ts closed h =
      half (total (crossing_from a p) (map (with_points from) ts)) (total (crossing_from a p) (map (with_points to) ts))
      (changes a p ts h ∙ closed.cancels (skew a p) (skew_is_odd a p))
    where
      half : (v w : ℤ) → (v -ℤ w) +ℤ (v -ℤ w) ≡ pos 0 → w ≡ v
      half v w e = omega (arith, linear, e)

  -- ---- near a point
  pub weights_before : (ts : List (Positions P)) → AllByRecursion HasBothWeights ts → AllByRecursion HasWeights (map (with_points from) ts)
  weights_before [] h = tt
  weights_before (t ∷ ts) h = (h.0.before, weights_before ts h.1)

  weights_after : (ts : List (Positions P)) → AllByRecursion HasBothWeights ts → AllByRecursion HasWeights (map (with_points to) ts)
  weights_after [] h = tt
  weights_after (t ∷ ts) h = (h.0.after, weights_after ts h.1)

  ahead_nearby : (p : Spot) (t : Positions P) → StaysAhead p t → Eventually (λ k. StaysAhead (offset_by p (pos k)) t)
  ahead_nearby p t s =
      let d = s.direction in
      eventually_map (λ k h. record {
        direction = d;
        a = h.0;
        a' = h.1.0;
        b = h.1.1.0;
        b' = h.1.1.1.0;
        c = h.1.1.1.1.0;
        c' = h.1.1.1.1.1;
      }) (eventually_both (ahead_shifted d (from t.a) p s.a) (eventually_both (ahead_shifted d (to t.a) p s.a')
      (eventually_both (ahead_shifted d (from t.b) p s.b) (eventually_both (ahead_shifted d (to t.b) p s.b')
      (eventually_both (ahead_shifted d (from t.c) p s.c) (ahead_shifted d (to t.c) p s.c'))))))

  seen_nearby : (a : Axis) (p : Spot) (t : Positions P) → pos 0 <ℤ p.w → HasBothWeights t → StaysAhead p t →
      Eventually (λ k. IsSeenWell a (offset_by p (pos k)) t)
  seen_nearby a p t wp w s =
      let f = w.before in let g = w.after in
      eventually_map (λ k h. record { ahead = h.0; ab = h.1.0; bc = h.1.1.0; ca = h.1.1.1 })
      (eventually_both (ahead_nearby p t s)
      (eventually_both (wall_shifted a (from t.a) (to t.a) (from t.b) (to t.b) p f.a g.a f.b g.b wp)
      (eventually_both (wall_shifted a (from t.b) (to t.b) (from t.c) (to t.c) p f.b g.b f.c g.c wp)
      (wall_shifted a (from t.c) (to t.c) (from t.a) (to t.a) p f.c g.c f.a g.a wp))))

  all_seen_nearby : (a : Axis) (p : Spot) (ts : List (Positions P)) → pos 0 <ℤ p.w → AllByRecursion HasBothWeights ts →
      AllByRecursion (StaysAhead p) ts → Eventually (λ k. AllByRecursion (IsSeenWell a (offset_by p (pos k))) ts)
  all_seen_nearby a p [] wp w s = eventually_true (λ k. tt)
  all_seen_nearby a p (t ∷ ts) wp w s =
      eventually_map (λ k h. (h.0, h.1)) (eventually_both (seen_nearby a p t wp w.0 s.0) (all_seen_nearby a p ts wp w.1 s.1))

  -- near p the triangles wind as before
  pub wind_alike_nearby : (a : Axis) (p : Spot) (ts : List (Positions P)) → pos 0 <ℤ p.w → HaveNoOddSum ts →
      AllByRecursion HasBothWeights ts → AllByRecursion (StaysAhead p) ts →
      Eventually (λ k. wind a (faces_of_triangles (map (with_points to) ts)) (offset_by p (pos k)) ≡ wind a
      (faces_of_triangles (map (with_points from) ts)) (offset_by p (pos k)))
  wind_alike_nearby a p ts wp closed w s =
      eventually_map (λ k h. let q = offset_by p (pos k) in
      wind_is_seen a q (map (with_points to) ts) h.0 (weights_after ts w)
      ∙ same_total a q ts closed h.1 ∙ sym (wind_is_seen a q (map (with_points from) ts) h.0 (weights_before ts w)))
      (eventually_both (weight_shifted p wp) (all_seen_nearby a p ts wp w s))

  -- and at p, where it is clear of both
  pub wind_alike : (a : Axis) (p : Spot) (ts : List (Positions P)) → pos 0 <ℤ p.w → HaveNoOddSum ts →
      AllByRecursion HasBothWeights ts → AllByRecursion (StaysAhead p) ts →
      AreClear (faces_of_triangles (map (with_points from) ts)) p →
      AreClear (faces_of_triangles (map (with_points to) ts)) p →
      wind a (faces_of_triangles (map (with_points to) ts)) p ≡ wind a (faces_of_triangles (map (with_points from) ts)) p
  wind_alike a p ts wp closed w s clear clear' =
      let e = eventually_both (wind_alike_nearby a p ts wp closed w s)
      (eventually_both (wind_shifted a p (faces_of_triangles (map (with_points from) ts)) wp clear)
      (wind_shifted a p (faces_of_triangles (map (with_points to) ts)) wp clear')) in
      let h = e.holds e.from (le_refl e.from) in h.1.1 ∙ h.0 ∙ sym h.1.0
