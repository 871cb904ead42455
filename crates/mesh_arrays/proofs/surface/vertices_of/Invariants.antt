use Rattle.std.proofs.Common.{map, take}
use Rattle.mesh_read.specs.Surface.Surfaces.{point_of}
use Rattle.mesh_arrays.specs.Arrays.{ArePointsOf}
use Rattle.mesh_arrays.proofs.surface.vertices_of.Given as goal

abbrev pub invariant-loop-index : goal.invariant-loop-index
invariant-loop-index l = ArePointsOf (take l.index l.vertices) (map point_of l.found.items)
