use Rattle.std.proofs.Common.{◌≡◌, ◌≤◌, ◌-◌, ◌^◌, length, drop, map}
use Rattle.mesh_read.specs.Surface.Surfaces.{content_of}
use Rattle.serde_json.specs.View.{view}
use Rattle.mesh_gltf.specs.Buffers.{bytes_seen}
use Rattle.mesh_gltf.specs.Nodes.{with_nodes, nodes_count}
use Rattle.mesh_gltf.proofs.nodes.add_nodes.Given as goal

abbrev pub invariant-loop-done : goal.invariant-loop-done
invariant-loop-done l = record {
  same : with_nodes (nodes_count (view l.document)) (view l.document) (map bytes_seen l.buffers) l.fn.waiting.items (content_of l.fn.surface)
      ≡ with_nodes (l.count - l.done) (view l.document) (map bytes_seen l.buffers) (drop l.done l.waiting.items) (content_of l.surface);
  points : length l.surface.vertices.items ≤ 2 ^ 24;
  corners : length l.surface.facets.items ≤ 2 ^ 24;
}

abbrev pub decreases-loop-done : goal.decreases-loop-done
decreases-loop-done l = l.count - l.done
