use Rattle.ember_expr.specs.Formula.{formula_of}
use Rattle.ember_step.proofs.JoinedTexts.{texts_join}
use Rattle.ember_step.proofs.law.leaf_texts_join.Goals as goal

pub returns : goal.returns
returns c =
    texts_join c.args._s.now.tris c.args._s.now.meshes c.args._s.now.kept (formula_of c.args.e.now) c.tree.ensures.fit
