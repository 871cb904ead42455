-- Remainders of a point's coordinates over its weight
use Rattle.std.specs.Prelude.{ℕ, ◌<◌, ℤ, pos, ◌+ℤ◌, ◌*ℤ◌}
use Rattle.std.specs.Int.{◌∣◌}
use Rattle.ember_model.specs.declared.point.Spot.{Spot}
use Rattle.mesh_broad.specs.declared.remainders.Remainders.{Remainders}

-- the point in the unit cube that begins at i, j and k
abbrev pub spot_from : ℤ → ℤ → ℤ → Remainders → Spot
spot_from i j k r =
    record {
      x = i *ℤ pos r.w +ℤ pos r.x;
      y = j *ℤ pos r.w +ℤ pos r.y;
      z = k *ℤ pos r.w +ℤ pos r.z;
      w = pos r.w;
    }

-- d divides the four numbers, and each number that does divides d
pub record IsCommonDivisor (r : Remainders) (d : ℕ) : Type 0 where
  pub positive : 0 < d
  pub x : d ∣ r.x
  pub y : d ∣ r.y
  pub z : d ∣ r.z
  pub w : d ∣ r.w
  pub greatest : (k : ℕ) → k ∣ r.x → k ∣ r.y → k ∣ r.z → k ∣ r.w → k ∣ d
