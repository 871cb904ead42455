use Rattle.mesh_certificate.specs.Certificate.Facing.{spot_of}
use Rattle.mesh_sources.proofs.Outside.{outside_decided}
use Rattle.mesh_sources.proofs.apart.is_outside.Goals as goal

pub returns : goal.returns
returns c =
    outside_decided c.args.plane.now c.main_axis.result (spot_of c.args.a.now) (spot_of c.args.b.now)
    (spot_of c.args.x.now) c.turns_left.result c.main_axis.ensures c.args.a.now.valid.positive c.requires.a c.requires.b
    c.requires.x c.turns_left.ensures
