use Rattle.mesh_outside.proofs.RunWeights.{boxes_weigh_as_the_root}
use Rattle.mesh_outside.proofs.progress.laws.all_boxes_weigh_as_the_root.Goals as goal

pub returns : goal.returns
returns c = boxes_weigh_as_the_root
