use Rattle.std.proofs.Common.{◌≡◌, ◌∙◌, take, arith}
use Rattle.std.specs.List.{fold}
use Rattle.std.proofs.lemmas.List.{take_all}
use Rattle.mesh_write.specs.Glb.Widened.{widened}
use Rattle.mesh_write.proofs.BoundsOf.{at_point, widened_are_bounds}
use Rattle.mesh_write.proofs.glb.bounds.bounds_of.Goals as goal

pub returns : goal.returns
returns c =
    let ts = c.args.triangles.now in
    let past = c.loop-triangle-test.false in
    let end = c.loop-triangle.auto.triangle-index-end in
    let all : take c.loop-triangle.triangle-index ts ≡ ts = take_all c.loop-triangle.triangle-index ts (omega arith) in
    let start = c.coordinates_of-first.ensures in
    widened_are_bounds ts _ c.loop-triangle.bounds c.requires (c.loop-triangle.invariant ∙ (λ i. fold widened (at_point (start i)) (all i)))
