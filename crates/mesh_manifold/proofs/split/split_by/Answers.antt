use Rattle.std.proofs.Common.{take}
use Rattle.mesh_manifold.proofs.Splits.{mesh_more}
use Rattle.mesh_manifold.proofs.split.split_by.Goals as goal

pub loop-index-preserved : goal.loop-index-preserved
loop-index-preserved c =
    mesh_more c.args.triangles.now c.loop-index.index _ c.push.new.self c.loop-index-test.true
    (c.in_ok-push.ensures (take c.loop-index.index c.args.triangles.now) c.loop-index.invariant)
