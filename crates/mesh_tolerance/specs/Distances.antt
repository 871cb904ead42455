-- Distances, in whole numbers
use Rattle.std.specs.Prelude.{ℕ, ℤ, pos, ◌*ℤ◌, ◌<ℤ◌, ◌≤ℤ◌}
use Rattle.ember_algebra.specs.Vector.{Vector, dot}
use Rattle.ember_model.specs.declared.point.Spot.{Spot}
use Rattle.ember_model.specs.Points.{displacement}
use Rattle.mesh_written.specs.Closed.{Positions}

abbrev pub square : ℤ → ℤ
square z = z *ℤ z

-- v is at most size / unit from u
pub record IsWithin (size unit : ℕ) (u v : Spot) : Type 0 where
  pub within : (square (pos unit) *ℤ dot (displacement u v) (displacement u v)) ≤ℤ square (u.w *ℤ v.w *ℤ pos size)

-- the way from p to u leads more than size / unit along d
pub record IsBeyond (size unit : ℕ) (p : Spot) (d : Vector) (u : Spot) : Type 0 where
  pub ahead : pos 0 <ℤ dot d (displacement p u)
  pub beyond : (square (p.w *ℤ u.w *ℤ pos size) *ℤ dot d d) <ℤ square (pos unit *ℤ dot d (displacement p u))

-- the triangle is farther than size / unit from p: some plane at right angles to a direction is so far away, and has
-- all of the triangle behind it
pub record IsFar (size unit : ℕ) (p : Spot) (t : Positions Spot) : Type 0 where
  pub direction : Vector
  pub a : IsBeyond size unit p direction t.a
  pub b : IsBeyond size unit p direction t.b
  pub c : IsBeyond size unit p direction t.c
