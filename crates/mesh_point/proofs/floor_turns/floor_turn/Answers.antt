use Rattle.std.proofs.Common.{◌≡◌, ◌-ℤ◌, SFits, to_z-of_z, rules}
use mir.Syntax.{w32}
use Rattle.ember_algebra.proofs.Exact.{narrow, ◌&◌, done, exact}
use Rattle.mesh_point.proofs.FloorTurns.{turn_by_floors}
use Rattle.mesh_point.proofs.floor_turns.floor_turn.Goals as goal

pub returns : goal.returns
returns c =
    let p = c.args.p.now in let q = c.args.q.now in let r = c.args.r.now in
    let px : SFits w32 p.floor_x = search rules in let py : SFits w32 p.floor_y = search rules in
    let qx : SFits w32 q.floor_x = search rules in let qy : SFits w32 q.floor_y = search rules in
    let rx : SFits w32 r.floor_x = search rules in let ry : SFits w32 r.floor_y = search rules in
    let a = exact (c.steps-right_q.ensures.small & done) (narrow 0) tt in let b = exact (c.steps-up_q.ensures.small & done) (narrow 0) tt in
    let e = exact (c.steps-right_r.ensures.small & done) (narrow 0) tt in let d = exact (c.steps-up_r.ensures.small & done) (narrow 0) tt in
    turn_by_floors p q r c.steps-right_q.result c.steps-up_q.result c.steps-right_r.result c.steps-up_r.result
    (rw (to_z-of_z px, to_z-of_z qx) at c.steps-right_q.ensures.value)
    (rw (to_z-of_z py, to_z-of_z qy) at c.steps-up_q.ensures.value)
    (rw (to_z-of_z px, to_z-of_z rx) at c.steps-right_r.ensures.value)
    (rw (to_z-of_z py, to_z-of_z ry) at c.steps-up_r.ensures.value) c.clear_turn.result
    (rw (a, b, e, d) at c.clear_turn.ensures)
