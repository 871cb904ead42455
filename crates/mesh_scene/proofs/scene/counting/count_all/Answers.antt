use Rattle.std.proofs.Common.{length, ap, arith}
use Rattle.mesh_scene.specs.Scene.Images.{images_on}
use Rattle.mesh_scene.proofs.Meshes.{length-images_more}
use Rattle.mesh_scene.proofs.scene.counting.count_all.Goals as goal

pub loop-surface-preserved : goal.loop-surface-preserved
loop-surface-preserved c =
    let more = length-images_more c.args.grid.now c.args.surfaces.now c.loop-surface.surface-index c.surface-item.result c.loop-surface-test.true in
    let one = ap (λ s. length (images_on c.args.grid.now 0 s)) c.surface-item.is in (
      omega (arith, c.loop-surface.invariant.0, more, one, c.from-count.ensures, c.count_images.ensures),
      omega (arith, c.loop-surface.invariant.1, c.from-count.ensures, c.count_images.type_inv),
    )
