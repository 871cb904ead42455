use Rattle.std.proofs.Common.{refl, arith}
use Rattle.mesh_read.specs.Surface.Surfaces.{point_of}
use Rattle.mesh_place.proofs.Boxes.{shifted_point}
use Rattle.mesh_place.proofs.shapes.boxes.both_corners.Goals as goal

pub returns-clause-from : goal.returns-clause-from
returns-clause-from c =
    shifted_point (point_of c.args.from.now) _ c.shift.new.self c.in_ok-start_places.start_places c.max-places.result _
    c.in_ok-start_places.ensures.point (omega (arith, c.max-places.ensures)) refl c.in_ok-shift.ensures

pub returns-clause-to : goal.returns-clause-to
returns-clause-to c =
    shifted_point (point_of c.args.to.now) _ c.shift-2.new.self c.in_ok-end_places.end_places c.max-places.result _
    c.in_ok-end_places.ensures.point (omega (arith, c.max-places.ensures)) refl c.in_ok-shift-2.ensures
