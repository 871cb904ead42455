use Rattle.std.proofs.Common.{◌≡◌, ◌≤◌, ◌-◌, map}
use Rattle.mesh_read.specs.Surface.Surfaces.{point_of}
use Rattle.mesh_gltf.specs.Primitives.{elements_seen, points_from}
use Rattle.mesh_gltf.proofs.Parts.{behind}
use Rattle.mesh_gltf.proofs.points.push_points.Given as goal

abbrev pub invariant-loop-element : goal.invariant-loop-element
invariant-loop-element l = record {
  within : l.element ≤ l.elements.window.count;
  same : behind (map point_of l.fn.vertices.items)
      (points_from (elements_seen l.elements) 0 l.elements.window.count)
      ≡ behind (map point_of l.vertices.items)
      (points_from (elements_seen l.elements) l.element (l.elements.window.count - l.element));
}

abbrev pub decreases-loop-element : goal.decreases-loop-element
decreases-loop-element l = l.elements.window.count - l.element
