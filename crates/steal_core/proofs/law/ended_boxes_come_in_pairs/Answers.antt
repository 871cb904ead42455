use Rattle.steal_core.proofs.Laws.{ended_pairs}
use Rattle.steal_core.proofs.law.ended_boxes_come_in_pairs.Goals as goal

pub returns : goal.returns
returns c = ended_pairs
