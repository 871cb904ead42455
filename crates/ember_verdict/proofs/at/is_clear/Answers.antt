use Rattle.ember_verdict.proofs.PointCounts.{clear_same}
use Rattle.ember_verdict.proofs.at.is_clear.Goals as goal

pub returns : goal.returns
returns c = clear_same c.clear.result c.args.tri.now c.args.point.now c.requires.point.weight c.clear.ensures
