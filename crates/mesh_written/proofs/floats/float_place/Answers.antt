use Rattle.mesh_written.specs.Places.{place_of}
use Rattle.mesh_written.proofs.Ratios.{infinite_of, nearest_of}
use Rattle.mesh_written.proofs.floats.float_place.Goals as goal

pub returns-clause-infinite : goal.returns-clause-infinite
returns-clause-infinite c =
    infinite_of c.exact_place-place.result (place_of c.args.step.now c.args.offset.now c.args.axis c.args.corner.now)
    c.nearest_binary32.result c.exact_place-place.ensures c.nearest_binary32.ensures.infinite

pub returns-clause-nearest : goal.returns-clause-nearest
returns-clause-nearest c =
    nearest_of c.exact_place-place.result (place_of c.args.step.now c.args.offset.now c.args.axis c.args.corner.now)
    c.nearest_binary32.result c.exact_place-place.ensures c.nearest_binary32.ensures.nearest
