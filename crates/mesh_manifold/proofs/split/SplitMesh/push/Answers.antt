use Rattle.mesh_manifold.proofs.Splits.{triangle_pushed}
use Rattle.mesh_manifold.proofs.split.SplitMesh.push.Goals as goal

pub returns : goal.returns
returns c =
    λ before are.
    let old = c.args.self.now in
    let a = c.in_ok-a.ensures in let b = c.in_ok-b.ensures in let e = c.in_ok-c.ensures in
    triangle_pushed old.origins.items c.vertex_of.new.origins.items c.vertex_of-2.new.origins.items
    c.vertex_of-3.new.origins.items old.triangles.items c.push.new.self.items before c.args.triangle.now _ _ _
    a.continues a.at b.continues b.at e.continues e.at are c.in_ok-push.ensures.items
