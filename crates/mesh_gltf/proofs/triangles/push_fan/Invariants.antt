use Rattle.std.proofs.Common.{◌≡◌, ◌<◌, ◌^◌, ◌+◌, ◌++◌, length}
use Rattle.mesh_gltf.specs.Triangles.{of_fan}
use Rattle.mesh_gltf.proofs.triangles.push_fan.Given as goal

abbrev pub invariant-loop-corner : goal.invariant-loop-corner
invariant-loop-corner l = record {
  same : l.fn.facets.items ++ of_fan l.fn.place l.first l.second l.others
      ≡ l.facets.items ++ of_fan l.place l.first l.previous l.rest;
  fits : l.place + length l.rest < 2 ^ 32;
}

abbrev pub decreases-loop-corner : goal.decreases-loop-corner
decreases-loop-corner l = length l.rest
