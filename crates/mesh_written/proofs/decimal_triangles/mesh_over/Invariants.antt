use Rattle.std.proofs.Common.{take}
use Rattle.mesh_written.specs.DecimalTriangles.{IsMeshOver}
use Rattle.mesh_written.proofs.decimal_triangles.mesh_over.Given as goal

abbrev pub invariant-loop-index : goal.invariant-loop-index
invariant-loop-index l = IsMeshOver l.points (take l.index l.triangles) l.written
