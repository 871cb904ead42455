use Rattle.mesh_write.proofs.Meshes.{vertices_pushed, triangles_pushed}
use Rattle.mesh_write.proofs.vertices.mesh.IndexedMesh.push.Goals as goal

pub returns : goal.returns
returns c =
    λ before is.
    let old = c.args.self.now in
    let t = c.args.triangle.now in
    let a = c.in_ok-a.ensures in let b = c.in_ok-b.ensures in let e = c.in_ok-c.ensures in
    let ka = c.vertex_at.new.points.keys in
    let kb = c.vertex_at-2.new.points.keys in
    let kc = c.vertex_at-3.new.points.keys in
    record {
      vertices = vertices_pushed before t old.points.keys ka kb kc old.triangles.items c.push.new.self.items _ _ _
          is.vertices is.triangles a.points a.index b.points b.index e.points e.index c.in_ok-push.ensures.items;
      triangles = triangles_pushed before t old.points.keys ka kb kc old.triangles.items c.push.new.self.items _ _ _
          is.vertices is.triangles a.points a.index b.points b.index e.points e.index c.in_ok-push.ensures.items;
    }
