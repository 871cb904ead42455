use Rattle.std.proofs.Common.{rules, ◌≡◌, [], Err, arith}
use Rattle.mesh_ply.specs.CursorViews.{scalar_of, cursor_of}
use Rattle.mesh_ply.specs.Rows.{corners_from}
use Rattle.mesh_ply.proofs.Steps.{corners_fault}
use Rattle.mesh_ply.proofs.properties.read_corners.Goals as goal

pub returns-in_err-corner-clause-fault : goal.returns-in_err-corner-clause-fault
returns-in_err-corner-clause-fault c =
    let fault : corners_from c.args.place c.args.item c.args.size [] (cursor_of c.args.cursor) ≡ Err
    c.in_err-corner.field-0.0 = corners_fault (corners_from c.args.place c.args.item c.args.size []
    (cursor_of c.args.cursor)) c.args.place c.args.item c.loop-left.left c.loop-left.corners.items
    (cursor_of c.loop-left.rest) (cursor_of c.in_ok-scalar.after) (scalar_of c.in_ok-scalar.scalar)
    c.in_err-corner.field-0.0 (grind arith) c.loop-left.invariant.same c.in_ok-scalar.ensures.ok
    c.in_err-corner.ensures.fault in
    search rules
