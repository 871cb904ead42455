use Rattle.std.proofs.Common.{◌≡◌, ◌<◌, ◌^◌, ◌+◌, ◌++◌, length}
use Rattle.mesh_gltf.specs.Triangles.{of_list}
use Rattle.mesh_gltf.proofs.triangles.push_list.Given as goal

abbrev pub invariant-loop-a : goal.invariant-loop-a
invariant-loop-a l = record {
  same : l.fn.facets.items ++ of_list l.fn.place l.corners ≡ l.facets.items ++ of_list l.place l.rest;
  fits : l.place + length l.rest < 2 ^ 32;
}

abbrev pub decreases-loop-a : goal.decreases-loop-a
decreases-loop-a l = length l.rest
