-- Triangles by numbers of their corners, closed, whose corners move
use Rattle.std.specs.Prelude.{◌≡◌, ℕ, nat_eq, pos, ◌+ℤ◌, ◌*ℤ◌, ◌<ℤ◌, List, map}
use Rattle.std.specs.List.{AllByRecursion}
use Rattle.ember_model.specs.declared.point.Axis.{Axis}
use Rattle.ember_model.specs.declared.point.Spot.{Spot}
use Rattle.ember_model.specs.Clear.{AreClear}
use Rattle.ember_model.specs.Meshes.{wind}
use Rattle.mesh_written.specs.Closed.{Positions, AreTrianglesClosed}
use Rattle.mesh_tolerance.specs.Distances.{IsWithin, IsFar}
use Rattle.mesh_tolerance.specs.Triangles.{faces_of_triangles, with_points}

-- a corner with this number moves by at most size / unit
pub record MovesWithin (size unit : ℕ) (from to : ℕ → Spot) (corner : ℕ) : Type 0 where
  pub weight : pos 0 <ℤ (from corner).w
  pub weight_after : pos 0 <ℤ (to corner).w
  pub within : IsWithin size unit (from corner) (to corner)

-- the three corners of a triangle
pub record CornersMoveWithin (size unit : ℕ) (from to : ℕ → Spot) (t : Positions ℕ) : Type 0 where
  pub a : MovesWithin size unit from to t.a
  pub b : MovesWithin size unit from to t.b
  pub c : MovesWithin size unit from to t.c

-- the triangles are closed, and none of their corners moves by more than size / unit
pub record IsMovedSurface (size unit : ℕ) (from to : ℕ → Spot) (ts : List (Positions ℕ)) : Type 0 where
  pub closed : AreTrianglesClosed nat_eq ts
  pub moves : AllByRecursion (CornersMoveWithin size unit from to) ts

-- around each point that is clear of the triangles before and after, and farther than size / unit from all of them
-- before, they wind as before
abbrev pub WindAsBefore : ℕ → ℕ → (ℕ → Spot) → (ℕ → Spot) → List (Positions ℕ) → Type 0
WindAsBefore size unit from to ts =
    (a : Axis) (p : Spot) → pos 0 <ℤ p.w → AllByRecursion (IsFar size unit p) (map (with_points from) ts) →
    AreClear (faces_of_triangles (map (with_points from) ts)) p →
    AreClear (faces_of_triangles (map (with_points to) ts)) p →
    wind a (faces_of_triangles (map (with_points to) ts)) p ≡ wind a (faces_of_triangles (map (with_points from) ts)) p

-- ---- the points of a triangle
-- the point with these barycentric coordinates: the mean of the corners, weighted by i, j and k
abbrev pub mean_of : ℕ → ℕ → ℕ → Positions Spot → Spot
mean_of i j k t =
    let l = pos i *ℤ (t.b.w *ℤ t.c.w) in let m = pos j *ℤ (t.c.w *ℤ t.a.w) in let n = pos k *ℤ (t.a.w *ℤ t.b.w) in
    record {
      x = l *ℤ t.a.x +ℤ m *ℤ t.b.x +ℤ n *ℤ t.c.x;
      y = l *ℤ t.a.y +ℤ m *ℤ t.b.y +ℤ n *ℤ t.c.y;
      z = l *ℤ t.a.z +ℤ m *ℤ t.b.z +ℤ n *ℤ t.c.z;
      w = l *ℤ t.a.w +ℤ m *ℤ t.b.w +ℤ n *ℤ t.c.w;
    }

-- no point of a triangle moves farther than size / unit from where it was, if it keeps its barycentric coordinates
abbrev pub PointsMoveWithin : ℕ → ℕ → (ℕ → Spot) → (ℕ → Spot) → List (Positions ℕ) → Type 0
PointsMoveWithin size unit from to ts =
    AllByRecursion (λ t. (i j k : ℕ) → IsWithin size unit (mean_of i j k (with_points from t))
    (mean_of i j k (with_points to t))) ts

-- ---- all surfaces
-- it is so of each surface that is closed, and of which no corner moves by more than size / unit
abbrev pub AllMovedSurfaces : (ℕ → ℕ → (ℕ → Spot) → (ℕ → Spot) → List (Positions ℕ) → Type 0) → Type 0
AllMovedSurfaces Is =
    (size unit : ℕ) (from to : ℕ → Spot) (ts : List (Positions ℕ)) → IsMovedSurface size unit from to ts →
    Is size unit from to ts
