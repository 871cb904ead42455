-- Levels: planes across an axis whose entry along it is 1 or -1
use Rattle.std.specs.Prelude.{◌≡◌, ℤ, pos, negsuc, neg_ℤ, Bool, true, false}
use Rattle.ember_model.specs.declared.point.Axis.{Axis}
use Rattle.ember_model.specs.declared.plane.Plane.{Plane}
use Rattle.ember_model.specs.Planes.{along}
use Rattle.ember_width.specs.Levels.{IsAlong}

-- the plane has the coordinate `at`: the entry of its normal is 1 or -1, by the side to which its front points
abbrev pub FacesAt : Bool → ℤ → ℤ → ℤ → Type 0
FacesAt true at n d = (n ≡ pos 1) × (d ≡ at)
FacesAt false at n d = (n ≡ negsuc 0) × (d ≡ neg_ℤ at)

-- the points of p are those with this coordinate along the axis
abbrev pub IsLevel : Axis → ℤ → Bool → Plane → Type 0
IsLevel k at is_up p = IsAlong k p × FacesAt is_up at (along p k) p.d
