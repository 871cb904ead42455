use Rattle.ember_expr.specs.Formula.{formula_of}
use Rattle.ember_visit.proofs.Laws.{root_is_job_on}
use Rattle.ember_step.proofs.JoinedOutlines.{outlines_join}
use Rattle.ember_step.proofs.law.leaf_outlines_join.Goals as goal

pub returns : goal.returns
returns g c =
    let w = g.met.W.Width in let ts = c.args._tris.now in
    outlines_join g.W.Width ts w.tells_apart c.requires (formula_of c.args.e.now) c.tree.ensures.fit
    (root_is_job_on g.W.Width.scale g.W.Width.corner g.W.Width.fine g.W.Width.UNIT ts w.ends w.tells_apart w.unit_is w.holds c.requires)
