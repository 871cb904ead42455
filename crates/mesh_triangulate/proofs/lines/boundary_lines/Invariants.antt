use Rattle.std.proofs.Common.{nat_eq, take}
use Rattle.std.specs.HashMap.{get}
use Rattle.mesh_triangulate.specs.Lines.{AreLinesOf}
use Rattle.mesh_triangulate.proofs.lines.boundary_lines.Given as goal

abbrev pub invariant-loop-s : goal.invariant-loop-s
invariant-loop-s l = AreLinesOf (take l.s-index l.boundary) (λ key. get nat_eq l.lines key)
