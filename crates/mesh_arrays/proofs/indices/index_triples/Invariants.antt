use Rattle.std.proofs.Common.{◌≡◌, map, take}
use Rattle.mesh_arrays.specs.Indices.{corners_of}
use Rattle.mesh_arrays.proofs.indices.index_triples.Given as goal

abbrev pub invariant-loop-triangle : goal.invariant-loop-triangle
invariant-loop-triangle l = l.found.items ≡ map corners_of (take l.triangle-index l.triangles)
