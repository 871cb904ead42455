-- Points in another unit and from another origin
use Rattle.std.specs.Prelude.{◌≡◌, ℤ, pos, ◌-ℤ◌, ◌*ℤ◌, ◌<ℤ◌, List, map}
use Rattle.ember_algebra.specs.Vector.{Vector}
use Rattle.ember_model.specs.declared.point.Axis.{Axis}
use Rattle.ember_model.specs.declared.point.Spot.{Spot}
use Rattle.ember_model.specs.Clear.{AreClear}
use Rattle.ember_model.specs.Meshes.{wind}
use Rattle.mesh_written.specs.Closed.{Positions}
use Rattle.mesh_tolerance.specs.Triangles.{faces_of_triangles}

-- the point in units of n / m, less the origin o, which is counted in them, too
abbrev pub placed_by : ℤ → ℤ → Vector → Spot → Spot
placed_by n m o v = record {
  x = m *ℤ v.x -ℤ o.x *ℤ (n *ℤ v.w);
  y = m *ℤ v.y -ℤ o.y *ℤ (n *ℤ v.w);
  z = m *ℤ v.z -ℤ o.z *ℤ (n *ℤ v.w);
  w = n *ℤ v.w;
}

abbrev pub triangle_placed_by : ℤ → ℤ → Vector → Positions Spot → Positions Spot
triangle_placed_by n m o t =
    record { a = placed_by n m o t.a; b = placed_by n m o t.b; c = placed_by n m o t.c }

-- all corners have weights above 0
pub record HasWeights (t : Positions Spot) : Type 0 where
  pub a : pos 0 <ℤ t.a.w
  pub b : pos 0 <ℤ t.b.w
  pub c : pos 0 <ℤ t.c.w

-- the triangles wind around each point as they do where all of them and the point are placed
abbrev pub WindAsPlaced : ℤ → ℤ → Vector → List (Positions Spot) → Type 0
WindAsPlaced n m o ts =
    (a : Axis) (p : Spot) → pos 0 <ℤ p.w →
    wind a (faces_of_triangles (map (triangle_placed_by n m o) ts)) (placed_by n m o p)
    ≡ wind a (faces_of_triangles ts) p

-- what is clear of them is clear of them there
abbrev pub AreClearAsPlaced : ℤ → ℤ → Vector → List (Positions Spot) → Type 0
AreClearAsPlaced n m o ts =
    (p : Spot) → AreClear (faces_of_triangles ts) p →
    AreClear (faces_of_triangles (map (triangle_placed_by n m o) ts)) (placed_by n m o p)

-- ---- in each unit and from each origin
abbrev pub WindAsAllPlaced : List (Positions Spot) → Type 0
WindAsAllPlaced ts = (n m : ℤ) (o : Vector) → pos 0 <ℤ n → pos 0 <ℤ m → WindAsPlaced n m o ts

abbrev pub AreClearAsAllPlaced : List (Positions Spot) → Type 0
AreClearAsAllPlaced ts = (n m : ℤ) (o : Vector) → pos 0 <ℤ n → pos 0 <ℤ m → AreClearAsPlaced n m o ts
