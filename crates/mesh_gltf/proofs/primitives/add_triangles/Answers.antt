use Rattle.std.proofs.Common.{◌≡◌, ◌+◌, ◌++◌, arith}
use Rattle.std.proofs.lemmas.Grind.{common_steps}
use Rattle.mesh_gltf.specs.Triangles.{triangles_of}
use Rattle.mesh_gltf.proofs.TriangleCounts.{facets_few}
use Rattle.mesh_gltf.proofs.primitives.add_triangles.Goals as goal

pub returns-clause-corners : goal.returns-clause-corners
returns-clause-corners c =
    let added : c.push_triangles.new.facets.items ≡ c.args.surface.now.facets.items
    ++ triangles_of c.args.topology (c.len-triangles.result + 1) c.deref.result.now = grind (arith, common_steps) in
    facets_few c.args.surface.now.facets.items c.push_triangles.new.facets.items c.args.topology
    (c.len-triangles.result + 1) c.deref.result.now added (grind (arith, common_steps))
