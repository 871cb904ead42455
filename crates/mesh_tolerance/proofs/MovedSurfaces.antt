-- A closed surface whose corners move by at most a distance winds as before around what is farther from it than that.
use Rattle.std.proofs.Common.{ℕ, List, [], ◌∷◌, map}
use Rattle.std.specs.List.{AllByRecursion}
use Rattle.ember_model.specs.declared.point.Spot.{Spot}
use Rattle.mesh_written.specs.Closed.{Positions}
use Rattle.mesh_tolerance.specs.Distances.{IsFar}
use Rattle.mesh_tolerance.specs.Moves.{CornersMoveWithin, IsMovedSurface, WindAsBefore}
use Rattle.mesh_tolerance.specs.Triangles.{with_points}
use Rattle.mesh_tolerance.proofs.ClosedTriangles.{closed_have_no_odd_sum}
use Rattle.mesh_tolerance.proofs.MovedCorners.{moved_stays_ahead}
use Rattle.mesh_tolerance.proofs.MovedTriangles.{HasBothWeights, StaysAhead, wind_alike}

module _ (size unit : ℕ) (from to : ℕ → Spot) where
  pub weights : (ts : List (Positions ℕ)) → AllByRecursion (CornersMoveWithin size unit from to) ts →
      AllByRecursion (HasBothWeights from to) ts
  weights [] h = tt
  weights (t ∷ ts) h =
      let m = h.0 in (
        record {
          before = record { a = m.a.weight; b = m.b.weight; c = m.c.weight };
          after = record { a = m.a.weight_after; b = m.b.weight_after; c = m.c.weight_after };
        },
        weights ts h.1,
      )

  -- a triangle that is far away stays ahead in the same direction
  stays_ahead : (p : Spot) (t : Positions ℕ) → CornersMoveWithin size unit from to t →
      IsFar size unit p (with_points from t) → StaysAhead from to p t
  stays_ahead p t m far = record {
    direction = far.direction;
    a = far.a.ahead;
    a' = moved_stays_ahead size unit far.direction p (from t.a) (to t.a) m.a.weight m.a.weight_after far.a m.a.within;
    b = far.b.ahead;
    b' = moved_stays_ahead size unit far.direction p (from t.b) (to t.b) m.b.weight m.b.weight_after far.b m.b.within;
    c = far.c.ahead;
    c' = moved_stays_ahead size unit far.direction p (from t.c) (to t.c) m.c.weight m.c.weight_after far.c m.c.within;
  }

  pub all_stay_ahead : (p : Spot) (ts : List (Positions ℕ)) → AllByRecursion (CornersMoveWithin size unit from to) ts →
      AllByRecursion (IsFar size unit p) (map (with_points from) ts) → AllByRecursion (StaysAhead from to p) ts
  all_stay_ahead p [] m far = tt
  all_stay_ahead p (t ∷ ts) m far = (stays_ahead p t m.0 far.0, all_stay_ahead p ts m.1 far.1)

  pub moved_surface_winds_as_before : (ts : List (Positions ℕ)) → IsMovedSurface size unit from to ts →
      WindAsBefore size unit from to ts
  moved_surface_winds_as_before ts moved a p wp far clear clear' =
      wind_alike from to a p ts wp (closed_have_no_odd_sum ts moved.closed) (weights ts moved.moves)
      (all_stay_ahead p ts moved.moves far) clear clear'
