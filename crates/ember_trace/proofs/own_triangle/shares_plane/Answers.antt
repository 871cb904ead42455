use Rattle.std.proofs.Common.{◌∙◌}
use Rattle.ember_trace.proofs.own_triangle.shares_plane.Goals as goal

pub returns : goal.returns
returns g c = λ t. c.is_same.ensures t ∙ c.support.ensures.value
