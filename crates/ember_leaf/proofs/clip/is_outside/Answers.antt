use Rattle.std.proofs.Common.{refl}
use Rattle.ember_model.specs.Faces.{face_of}
use Rattle.ember_leaf.proofs.WallClips.{left_begun, left_stay, left_nothing}
use Rattle.ember_leaf.proofs.clip.is_outside.Goals as goal

pub loop-wall-init : goal.loop-wall-init
loop-wall-init g c = left_begun c.args.triangle.now.tri c.requires refl

pub returns-in-Nothing : goal.returns-in-Nothing
returns-in-Nothing g c =
    λ e. left_nothing c.args.triangle.now.tri c.args.walls.now c.loop-wall.wall-index c.wall-item.result
    (face_of c.args.triangle.now.tri) c.loop-wall-test.true c.wall-item.is c.loop-wall.invariant
    c.remainder_at.ensures c.in-Nothing.is

pub loop-wall-preserved : goal.loop-wall-preserved
loop-wall-preserved g c =
    left_stay c.args.triangle.now.tri c.args.walls.now c.loop-wall.wall-index c.wall-item.result
    (face_of c.args.triangle.now.tri) c.loop-wall-test.true c.wall-item.is c.loop-wall.invariant
    c.remainder_at.ensures c.in-Whole.is
