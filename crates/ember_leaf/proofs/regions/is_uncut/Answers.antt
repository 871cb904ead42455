use Rattle.ember_leaf.proofs.Pieces.{uncut_more, all_uncut}
use Rattle.ember_leaf.proofs.regions.is_uncut.Goals as goal
use Rattle.ember_model.specs.Planes.{zero_plane}

pub loop-p-preserved : goal.loop-p-preserved
loop-p-preserved g c =
    uncut_more c.args.r.now c.args.planes.now c.loop-p.p-index zero_plane c.loop-p-test.true c.loop-p.invariant
    (record { side = c.reach.result; lies = c.reach.ensures; uncut = c.in_default.not-Both })

pub returns : goal.returns
returns g c =
    λ e. all_uncut c.args.r.now c.args.planes.now c.loop-p.p-index c.loop-p-test.false c.loop-p.invariant
