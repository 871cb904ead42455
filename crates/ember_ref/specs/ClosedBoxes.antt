-- Points in closed boxes
use Rattle.std.specs.Prelude.{ℤ, pos, ◌*ℤ◌, ◌<ℤ◌, ◌≤ℤ◌}
use Rattle.ember_model.specs.declared.point.Spot.{Spot}
use Rattle.ember_box.specs.declared.aabb.Interval.{Interval}
use Rattle.ember_box.specs.Boxes.{Cell}
use Rattle.ember_box.specs.Aabbs.{aabb_of_cell}

-- x / w lies in the interval
pub record IsAcross (s : Interval) (x w : ℤ) : Type 0 where
  pub from : (s.low *ℤ w) ≤ℤ x
  pub to : x ≤ℤ (s.high *ℤ w)

-- the point lies in the closed box
pub record HasPoint (c : Cell) (v : Spot) : Type 0 where
  pub weight : pos 0 <ℤ v.w
  pub on_x : IsAcross (aabb_of_cell c).x v.x v.w
  pub on_y : IsAcross (aabb_of_cell c).y v.y v.w
  pub on_z : IsAcross (aabb_of_cell c).z v.z v.w
