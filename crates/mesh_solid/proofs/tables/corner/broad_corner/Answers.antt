use Rattle.ember_width.specs.BroadPoints.{spot_of}
use Rattle.mesh_solid.proofs.BroadCorners.{corner_found}
use Rattle.mesh_solid.proofs.tables.corner.broad_corner.Goals as goal

pub returns : goal.returns
returns c =
    let a = c.args in let is = c.in_ok-meet.ensures in
    corner_found a.p.now a.q.now a.r.now (spot_of c.in_ok-meet.field-0) (λ z. let clash = is.none.1 z in cc) is.formula
    c.reduced_point.result c.reduced_point.ensures
