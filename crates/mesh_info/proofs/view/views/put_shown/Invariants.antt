use Rattle.std.proofs.Common.{List, ◌++◌, take}
use Rattle.mesh_write.specs.declared.vertices.point.DecimalTriangle.{DecimalTriangle}
use Rattle.mesh_info.specs.View.Views.{AreShown}
use Rattle.mesh_info.proofs.view.views.put_shown.Given as goal

abbrev pub invariant-loop-t : goal.invariant-loop-t
invariant-loop-t l = (others : List DecimalTriangle) → AreShown others l.fn.written.items → AreShown (others ++ take l.t-index l.triangles) l.written.items
