use Rattle.std.proofs.Common.{inr, arith}
use Rattle.mesh_gltf.specs.Bytes.{bytes_of}
use Rattle.mesh_gltf.specs.Corners.{corners_in}
use Rattle.mesh_gltf.proofs.Inside.{element_inside}
use Rattle.mesh_gltf.proofs.CornerSteps.{corners_more, corners_refused}
use Rattle.mesh_gltf.proofs.corners.read_corners.Goals as goal

pub overflow_add-at : goal.overflow_add-at
overflow_add-at c =
    let inside = element_inside (bytes_of c.args.size) c.loop-index.index c.args.window c.args.bytes.now c.requires.inside (omega arith) in
    omega (arith, inside)

pub index_at-corner-requires : goal.index_at-corner-requires
index_at-corner-requires c =
    let inside = element_inside (bytes_of c.args.size) c.loop-index.index c.args.window c.args.bytes.now c.requires.inside (omega arith) in
    omega (arith, inside)

pub returns-then-corner-points-clause-fault : goal.returns-then-corner-points-clause-fault
returns-then-corner-points-clause-fault c =
    inr (corners_refused (corners_in c.args.base c.args.points c.args.size c.args.window c.args.bytes.now) c.args.base
    c.args.points c.args.window.count c.loop-index.index c.index_at-corner.result c.args.size c.args.window c.args.bytes.now
    c.loop-index.corners.items c.loop-index.invariant.same (omega arith) c.index_at-corner.ensures (omega arith))

pub loop-index-preserved : goal.loop-index-preserved
loop-index-preserved c = record {
  within = omega arith;
  same = corners_more (corners_in c.args.base c.args.points c.args.size c.args.window c.args.bytes.now) c.args.base
      c.args.points c.args.window.count c.loop-index.index c.index_at-corner.result c.args.size c.args.window c.args.bytes.now
      c.loop-index.corners.items c.push.new.corners.items c.loop-index.invariant.same (omega arith) c.index_at-corner.ensures
      (omega arith) c.in_ok-push.ensures.ok;
}
