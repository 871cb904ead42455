use Rattle.ember_width.proofs.TakenPlanes.{edges_taken}
use Rattle.ember_leaf.proofs.clip.clip_to_box.Goals as goal

pub begin-requires-clause-sized : goal.begin-requires-clause-sized
begin-requires-clause-sized g c = edges_taken g.met.W.Width.takes _ c.args.triangle.now.edges_sized
