use Rattle.ember_expr.specs.Formula.{formula_of}
use Rattle.ember_step.proofs.JoinedFaces.{faces_join}
use Rattle.ember_step.proofs.law.leaf_faces_join.Goals as goal

pub returns : goal.returns
returns c =
    faces_join c.args._s.now.tris c.args._s.now.meshes c.args._s.now.kept (formula_of c.args.e.now) c.tree.ensures.fit
