use Rattle.std.proofs.Common.{List, length, ap, subst, arith}
use Rattle.mesh_write.specs.declared.vertices.point.IndexedTriangle.{IndexedTriangle}
use Rattle.mesh_manifold.specs.Paired.{IsManifold}
use Rattle.mesh_manifold.proofs.Splits.{as_many}
use Rattle.mesh_manifold.proofs.split.split_vertices.Goals as goal

pub has_two_each-requires : goal.has_two_each-requires
has_two_each-requires c =
    let mesh = c.in_ok-mesh.mesh in
    let many = as_many mesh.origins.items mesh.triangles.items c.args.triangles.now c.in_ok-mesh.ensures in
    let same = ap length c.deref-2.ensures.value in
    omega (arith, many, same)

pub returns-clause-manifold : goal.returns-clause-manifold
returns-clause-manifold c = λ told.
    subst (λ (ts : List IndexedTriangle). IsManifold ts) c.deref-2.ensures.value (c.in_ok-is_manifold.ensures told)
