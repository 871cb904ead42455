use Rattle.std.proofs.Common.{take, arith}
use Rattle.std.proofs.lemmas.List.{length-take-le}
use Rattle.mesh_written.proofs.Kept.{mesh_more}
use Rattle.mesh_written.proofs.decimal_triangles.mesh_over.Goals as goal

pub loop-index-preserved : goal.loop-index-preserved
loop-index-preserved c =
    let ts = c.args.triangles.now in
    let i = c.loop-index.index in
    let below = c.loop-index-test.true in
    mesh_more c.args.points.now ts i c.index-triangles-index.result c.push_kept.new.written below c.index-triangles-index.is
    (c.in_ok-push_kept.ensures (take i ts) (length-take-le i ts (omega (arith, below))) c.loop-index.invariant)
