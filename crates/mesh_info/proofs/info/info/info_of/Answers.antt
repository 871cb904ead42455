use Rattle.std.proofs.Common.{length, ap, ◌∙◌, arith}
use Rattle.std.proofs.lemmas.List.{length-map}
use Rattle.mesh_write.specs.Vertices.Vertices.{indexed}
use Rattle.mesh_info.specs.Info.Bounds.{box_of}
use Rattle.mesh_info.specs.Info.Corners.{places_of, triangle_over, triangles_of}
use Rattle.mesh_info.specs.Info.Edges.{loose_edges, shared_edges}
use Rattle.mesh_info.specs.Info.Infos.{positions_of}
use Rattle.mesh_info.specs.Info.Volume.{volume_of}
use Rattle.mesh_info.proofs.info.info.info_of.Goals as goal

pub returns : goal.returns
returns c =
    let s = c.args.surface.now in
    let p = c.vertices-positions.ensures (triangles_of s) c.in_ok-mesh.ensures in
    let t = c.triangles-triangles.ensures (triangles_of s) c.in_ok-mesh.ensures in
    record {
      triangles = omega (arith, ap length t, length-map (triangles_of s) (indexed (positions_of s)), length-map s.facets.items (triangle_over (places_of s)));
      positions = omega (arith, ap length p);
      loose = c.in_ok-counts.ensures.loose ∙ ap loose_edges t;
      shared = c.in_ok-counts.ensures.shared ∙ ap shared_edges t;
      bounds = c.box_of-bounds.ensures ∙ ap box_of p;
      volume = c.volume_of.ensures ∙ (λ k. volume_of c.box_of-bounds.result.lower (p k) (t k));
    }
