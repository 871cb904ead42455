use Rattle.std.proofs.Common.{rules, ◌≡◌, ◌<◌, ◌∙◌, true, ap, length, arith}
use Rattle.mesh_place.specs.AffineMaps.{affine_of}
use Rattle.mesh_place.specs.Points.{has_short_numbers}
use Rattle.mesh_place.proofs.Images.{images_more, short_vertex}
use Rattle.mesh_place.proofs.surface.image.transform_surface.Goals as goal

pub loop-index-preserved : goal.loop-index-preserved
loop-index-preserved c =
    let l = c.loop-index in let vertices = c.args.surface.now.vertices.items in let v = c.vertex-item.result in
    let all = c.deref-vertex-items.ensures.value in
    let within : l.index < length vertices = omega (arith, ap length all) in
    let read = rw all at c.vertex-item.is in
    let short : has_short_numbers v ≡ true = search rules in
    record {
      points = images_more (affine_of c.args.map.now) vertices l.index v l.points.items c.push.new.self.items c.in_ok-image_of.field-0
          within read l.invariant.points c.in_ok-image_of.ensures c.in_ok-push.ensures.items;
      fault = l.invariant.fault ∙ short_vertex vertices l.index v within read short;
    }
