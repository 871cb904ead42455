use Rattle.ember_expr.specs.Formula.{formula_of}
use Rattle.ember_step.proofs.FullTree.{visited_written}
use Rattle.ember_step.proofs.law.visited_leaves_write_all.Goals as goal

pub returns : goal.returns
returns c = λ kept each.
    visited_written c.args._s.now.tris c.args._s.now.meshes c.args._s.now.kept (formula_of c.args.e.now) c.tree.ensures.fit kept each
