use Rattle.mesh_grid.specs.Snap.Sizes.{limit_of}
use Rattle.mesh_grid.proofs.Landings.{spans_land}
use Rattle.mesh_grid.proofs.snap.offsets.offset_within.Goals as goal

pub returns-in-Some-clause-lands : goal.returns-in-Some-clause-lands
returns-in-Some-clause-lands c =
    rw c.offset_of.ensures (spans_land (limit_of c.args.size) c.args.step.now c.args.coordinates.now c.in-Some.spans c.in-Some.ensures.found)
