-- Points: moved, scaled, and shifted a little along all axes
use Rattle.std.specs.Prelude.{◌≡◌, ℤ, pos, ◌+ℤ◌, ◌-ℤ◌, ◌*ℤ◌}
use Rattle.ember_algebra.specs.Vector.{Vector}
use Rattle.ember_model.specs.declared.point.Spot.{Spot}
use Rattle.ember_model.specs.declared.point.Axis.{Axis}
use Rattle.ember_model.specs.declared.point.Axis.TheVariants.{X, Y, Z}

-- the same point, if k is positive
abbrev pub scaled : ℤ → Spot → Spot
scaled k s = record { x = k *ℤ s.x; y = k *ℤ s.y; z = k *ℤ s.z; w = k *ℤ s.w }

-- moved along an axis by the distance by / w
abbrev pub moved : Spot → Axis → ℤ → Spot
moved s X by = record s { x = s.x +ℤ by }
moved s Y by = record s { y = s.y +ℤ by }
moved s Z by = record s { z = s.z +ℤ by }

-- the sum of two tuples: for k, m ≥ 0 the point `plus_s (scaled k p) (scaled m q)` lies between p and q
abbrev pub plus_s : Spot → Spot → Spot
plus_s p q = record { x = p.x +ℤ q.x; y = p.y +ℤ q.y; z = p.z +ℤ q.z; w = p.w +ℤ q.w }

-- p offset by a little, most along x and least along z, if m is large
abbrev pub offset_by : Spot → ℤ → Spot
offset_by p m =
    record {
      x = m *ℤ m *ℤ m *ℤ p.x +ℤ m *ℤ m;
      y = m *ℤ m *ℤ m *ℤ p.y +ℤ m;
      z = m *ℤ m *ℤ m *ℤ p.z +ℤ pos 1;
      w = m *ℤ
          m *ℤ m *ℤ p.w;
    }

-- as rational points p and q differ at most in one coordinate
abbrev pub DifferAlong : Axis → Spot → Spot → Type 0
DifferAlong X p q = (q.w *ℤ p.y ≡ p.w *ℤ q.y) × (q.w *ℤ p.z ≡ p.w *ℤ q.z)
DifferAlong Y p q = (q.w *ℤ p.x ≡ p.w *ℤ q.x) × (q.w *ℤ p.z ≡ p.w *ℤ q.z)
DifferAlong Z p q = (q.w *ℤ p.x ≡ p.w *ℤ q.x) × (q.w *ℤ p.y ≡ p.w *ℤ q.y)

-- the vector from u to v, times both weights
abbrev pub displacement : Spot → Spot → Vector
displacement u v =
    record { x = u.w *ℤ v.x -ℤ v.w *ℤ u.x; y = u.w *ℤ v.y -ℤ v.w *ℤ u.y; z = u.w *ℤ v.z -ℤ v.w *ℤ u.z }
