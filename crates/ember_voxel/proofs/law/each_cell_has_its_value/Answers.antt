use Rattle.std.proofs.Common.{List, subst}
use Rattle.ember_expr.specs.Formula.{formula_of}
use Rattle.ember_voxel.specs.declared.fill.Fill.{Fill}
use Rattle.ember_voxel.specs.Grid.{IsGridText}
use Rattle.ember_voxel.proofs.CellValues.{voxels_are}
use Rattle.ember_voxel.proofs.law.each_cell_has_its_value.Goals as goal

pub returns : goal.returns
returns c = λ size fills text le are is.
    voxels_are c.args._s.now.tris c.args._s.now.meshes c.args._s.now.kept (formula_of c.args.e.now) c.tree.ensures.fit
    size text le (subst (λ (xs : List Fill). IsGridText size xs text) are is)
