use Rattle.std.proofs.Common.{◌≡◌, ◌++◌, drop}
use Rattle.mesh_info.specs.Info.Edges.{sides_of}
use Rattle.mesh_info.proofs.info.edges.sides_of.Given as goal

abbrev pub invariant-loop-t : goal.invariant-loop-t
invariant-loop-t l =
    l.sides.items ++ sides_of (drop l.t-index l.triangles) ≡ sides_of l.triangles
