use Rattle.ember_model.specs.Limits.{broad_limit}
use Rattle.ember_box.proofs.half_boxes.plane_to_test.Goals as goal

pub returns-else-contains_aabb-clause-sized : goal.returns-else-contains_aabb-clause-sized
returns-else-contains_aabb-clause-sized c = c.support_of.ensures.within broad_limit c.requires.tri
