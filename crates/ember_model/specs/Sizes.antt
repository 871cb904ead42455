-- How large the planes of a triangle are: smaller than valid planes may be
use Rattle.ember_algebra.specs.Size.{Small}
use Rattle.ember_model.specs.declared.plane.Plane.{Plane}
use Rattle.ember_model.specs.Limits.{valid_normal_limit, support_constant_limit, edge_normal_limit, edge_constant_limit}

-- each entry of the normal is below 2^25 in size, the constant below 3 * 2^36
pub record IsSupportSized (p : Plane) : Type 0 where
  pub a : Small valid_normal_limit p.a
  pub b : Small valid_normal_limit p.b
  pub c : Small valid_normal_limit p.c
  pub d : Small support_constant_limit p.d

-- each entry of the normal is below 2^12 in size, the constant below 2^24
pub record IsEdgeSized (p : Plane) : Type 0 where
  pub a : Small edge_normal_limit p.a
  pub b : Small edge_normal_limit p.b
  pub c : Small edge_normal_limit p.c
  pub d : Small edge_constant_limit p.d
