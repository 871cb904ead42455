use Rattle.std.specs.List.{All}
use Rattle.mesh_triangulate.specs.Cuts.{IsTouchOf}
use Rattle.mesh_triangulate.proofs.cut.touches_of.Given as goal

abbrev pub invariant-loop-inside : goal.invariant-loop-inside
invariant-loop-inside l = All (IsTouchOf l.boundary) l.touches.items
