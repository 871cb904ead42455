use Rattle.std.proofs.Common.{◌≡◌, ◌≤◌, ◌^◌, length, map}
use Rattle.mesh_read.specs.Surface.Surfaces.{content_of}
use Rattle.serde_json.specs.View.{view, items_view}
use Rattle.mesh_gltf.specs.Buffers.{bytes_seen}
use Rattle.mesh_gltf.specs.Nodes.{with_primitives}
use Rattle.mesh_gltf.proofs.nodes.add_primitives.Given as goal

abbrev pub invariant-loop-primitive : goal.invariant-loop-primitive
invariant-loop-primitive l = record {
  same : with_primitives l.mesh (view l.document) (map bytes_seen l.buffers) (content_of l.fn.surface) (items_view l.primitives)
      ≡ with_primitives l.mesh (view l.document) (map bytes_seen l.buffers) (content_of l.surface) (items_view l.rest);
  points : length l.surface.vertices.items ≤ 2 ^ 24;
  corners : length l.surface.facets.items ≤ 2 ^ 24;
}

abbrev pub decreases-loop-primitive : goal.decreases-loop-primitive
decreases-loop-primitive l = length l.rest
