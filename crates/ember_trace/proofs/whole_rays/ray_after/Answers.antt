use Rattle.ember_model.proofs.PlaneSizes.{tri_within}
use Rattle.ember_width.proofs.TakenPlanes.{support_taken}
use Rattle.ember_trace.proofs.whole_rays.ray_after.Goals as goal

pub support_of-n-requires : goal.support_of-n-requires
support_of-n-requires g c = tri_within g.met.W.Width.at_most_broad c.requires

pub side_of-requires : goal.side_of-requires
side_of-requires g c = support_taken g.met.W.Width.takes (c.support_of-n.ensures.within g.W.Width.corner c.requires)
