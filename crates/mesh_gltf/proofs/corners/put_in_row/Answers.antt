use Rattle.std.proofs.Common.{arith}
use Rattle.mesh_gltf.specs.Corners.{corners_in_row}
use Rattle.mesh_gltf.proofs.CornerSteps.{row_more}
use Rattle.mesh_gltf.proofs.corners.put_in_row.Goals as goal

pub loop-index-preserved : goal.loop-index-preserved
loop-index-preserved c = record {
  within = omega arith;
  same = row_more (corners_in_row c.args.first c.args.points) c.loop-index.corners.items c.push.new.corners.items
      c.args.first c.args.points c.loop-index.index c.loop-index.invariant.same (omega arith) c.in_ok-push.ensures.ok;
}
