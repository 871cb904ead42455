use Rattle.std.proofs.Common.{◌≡◌, ◌<◌, ◌^◌, ◌+◌, ◌++◌, length, false}
use Rattle.mesh_gltf.specs.Triangles.{of_strip}
use Rattle.mesh_gltf.proofs.triangles.push_strip.Given as goal

abbrev pub invariant-loop-c : goal.invariant-loop-c
invariant-loop-c l = record {
  same : l.fn.facets.items ++ of_strip false l.fn.place l.first l.second l.others
      ≡ l.facets.items ++ of_strip l.odd l.place l.a l.b l.rest;
  fits : l.place + length l.rest < 2 ^ 32;
}

abbrev pub decreases-loop-c : goal.decreases-loop-c
decreases-loop-c l = length l.rest
