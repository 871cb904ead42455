-- The winding numbers directly before and after a region
use Rattle.std.specs.Prelude.{◌≡◌, ℕ, ◌*◌, ◌≤◌, ◌<◌, true, List, ℤ, pos, neg_ℤ}
use Rattle.ember_model.specs.declared.point.Spot.{Spot}
use Rattle.ember_model.specs.declared.point.Axis.{Axis}
use Rattle.ember_model.specs.declared.tri.Tri.{Tri}
use Rattle.ember_model.specs.declared.face.Face.{Face}
use Rattle.ember_model.specs.Points.{scaled, moved}
use Rattle.ember_model.specs.Planes.{main_axis}
use Rattle.ember_model.specs.Faces.{is_inside}
use Rattle.ember_model.specs.Clear.{AreClear}
use Rattle.ember_model.specs.Meshes.{faces_of, vector}

-- v is clear of all triangles, and its winding numbers along k are these
pub record HasWindings (ts : List Tri) (k : Axis) (v : Spot) (counts : List ℤ) : Type 0 where
  pub clear : AreClear (faces_of ts) v
  pub counts_are : vector k ts v ≡ counts

-- an inside point of f such that each point a small distance back along the main axis is clear and has the
-- winding numbers `before`, and each a small distance on is clear and has `after`. The distance is s / (m * w),
-- and it is small if m > bound * s.
pub record IsSides (ts : List Tri) (f : Face) (before after : List ℤ) : Type 0 where
  pub at : Spot
  pub inside : is_inside f at ≡ true
  pub bound : ℕ
  pub sees_before : (s m : ℕ) → 1 ≤ s → bound * s < m →
      HasWindings ts (main_axis f.support) (moved (scaled (pos m) at) (main_axis f.support) (neg_ℤ (pos s))) before
  pub sees_after : (s m : ℕ) → 1 ≤ s → bound * s < m →
      HasWindings ts (main_axis f.support) (moved (scaled (pos m) at) (main_axis f.support) (pos s)) after
