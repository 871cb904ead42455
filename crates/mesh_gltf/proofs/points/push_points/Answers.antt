use Rattle.std.proofs.Common.{◌≡◌, ◌++◌, ◌∷◌, [], map, arith}
use Rattle.std.proofs.lemmas.Grind.{common_steps}
use Rattle.mesh_read.specs.Surface.Surfaces.{point_of}
use Rattle.mesh_gltf.specs.Primitives.{elements_seen, points_from}
use Rattle.mesh_gltf.proofs.Parts.{behind}
use Rattle.mesh_gltf.proofs.Inside.{element_inside}
use Rattle.mesh_gltf.proofs.PointSteps.{points_more, points_read}
use Rattle.mesh_gltf.proofs.points.push_points.Goals as goal

pub overflow_add-at : goal.overflow_add-at
overflow_add-at c =
    let inside = element_inside 12 c.loop-element.element c.args.elements.window c.args.elements.bytes.now c.requires (omega arith) in
    omega (arith, inside)

pub read_point-requires : goal.read_point-requires
read_point-requires c =
    let inside = element_inside 12 c.loop-element.element c.args.elements.window c.args.elements.bytes.now c.requires (omega arith) in
    omega (arith, inside)

pub loop-element-preserved : goal.loop-element-preserved
loop-element-preserved c =
    let added : c.push.new.self.items ≡ c.loop-element.vertices.items ++ c.in-Some.vertex ∷ [] = grind (arith, common_steps) in
    record {
      within = omega arith;
      same = points_more (behind (map point_of c.args.vertices.now.items)
          (points_from (elements_seen c.args.elements) 0 c.args.elements.window.count)) (elements_seen c.args.elements)
          c.args.elements.window.count c.loop-element.element c.loop-element.vertices.items c.push.new.self.items
          c.in-Some.vertex c.loop-element.invariant.same (omega arith) c.in-Some.ensures added;
    }

pub returns-clause-ok : goal.returns-clause-ok
returns-clause-ok c =
    points_read (elements_seen c.args.elements) c.loop-element.element c.args.index c.args.vertices.now.items
    c.loop-element.vertices.items c.loop-element.invariant.same (omega arith)
