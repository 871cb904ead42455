use Rattle.std.proofs.Common.{take}
use Rattle.mesh_triangles.specs.Walks.{AddsStretch}
use Rattle.mesh_triangles.proofs.walk.Walk.end_stretch.Given as goal

abbrev pub invariant-loop-s : goal.invariant-loop-s
invariant-loop-s l =
    AddsStretch l.self (take l.s-index l.self.stretch.items) l.fn.segments.items l.segments.items
