-- Places on a ray from a point along an axis
use Rattle.std.specs.Prelude.{◌^◌}
use Rattle.ember_algebra.specs.Size.{Small}
use Rattle.ember_model.specs.declared.point.Spot.{Spot}
use Rattle.ember_model.specs.declared.values.RayPoint.{RayPoint}
use Rattle.ember_model.specs.Limits.{valid_normal_limit}
use Rattle.ember_model.specs.Points.{scaled, moved}

-- for a positive factor it lies offset / (factor * w) past p
abbrev pub point_on_ray : Spot → RayPoint → Spot
point_on_ray p r = moved (scaled r.factor p) r.axis r.offset

-- the sizes with which the point's values fit into 128 bits
pub record IsRayPointSized (r : RayPoint) : Type 0 where
  pub factor : Small valid_normal_limit r.factor
  pub offset : Small (2 ^ 80) r.offset
