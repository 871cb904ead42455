use Rattle.std.specs.List.{All}
use Rattle.mesh_triangulate.specs.Corners.{HasCornersOf}
use Rattle.mesh_triangulate.proofs.cut.named.Given as goal

abbrev pub invariant-loop-triangle : goal.invariant-loop-triangle
invariant-loop-triangle l = All (HasCornersOf l.boundary) l.named.items
