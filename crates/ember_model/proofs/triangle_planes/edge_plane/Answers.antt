use Rattle.ember_model.specs.Limits.{narrow_limit}
use Rattle.ember_model.proofs.PlaneSizes.{edge_valid, edge_sized_within}
use Rattle.ember_model.proofs.triangle_planes.edge_plane.Goals as goal

pub returns-in-0-clause-within : goal.returns-in-0-clause-within
returns-in-0-clause-within c m v = c.side_plane.ensures.within m v.a v.b

pub returns-in-0-clause-small : goal.returns-in-0-clause-small
returns-in-0-clause-small c v = edge_sized_within (c.side_plane.ensures.within narrow_limit v.a v.b)

pub returns-in-0-clause-valid : goal.returns-in-0-clause-valid
returns-in-0-clause-valid c v = edge_valid (edge_sized_within (c.side_plane.ensures.within narrow_limit v.a v.b))

pub returns-in-1-clause-within : goal.returns-in-1-clause-within
returns-in-1-clause-within c m v = c.side_plane-in-1.ensures.within m v.b v.c

pub returns-in-1-clause-small : goal.returns-in-1-clause-small
returns-in-1-clause-small c v = edge_sized_within (c.side_plane-in-1.ensures.within narrow_limit v.b v.c)

pub returns-in-1-clause-valid : goal.returns-in-1-clause-valid
returns-in-1-clause-valid c v = edge_valid (edge_sized_within (c.side_plane-in-1.ensures.within narrow_limit v.b v.c))

pub returns-in_default-clause-within : goal.returns-in_default-clause-within
returns-in_default-clause-within c m v = c.side_plane-in_default.ensures.within m v.c v.a

pub returns-in_default-clause-small : goal.returns-in_default-clause-small
returns-in_default-clause-small c v = edge_sized_within (c.side_plane-in_default.ensures.within narrow_limit v.c v.a)

pub returns-in_default-clause-valid : goal.returns-in_default-clause-valid
returns-in_default-clause-valid c v = edge_valid (edge_sized_within (c.side_plane-in_default.ensures.within narrow_limit v.c v.a))
