use Rattle.std.proofs.Common.{sym, ◌∙◌}
use Rattle.ember_trace.proofs.OwnTriangles.{planes_are_equal}
use Rattle.ember_trace.proofs.own_triangle.is_same.Goals as goal

pub returns : goal.returns
returns c = λ t. (planes_are_equal c.args.p.now c.args.q.now).0 (sym c.eq.ensures ∙ t)
