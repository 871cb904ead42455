use Rattle.std.proofs.Common.{◌≡◌, pos, arith}
use Rattle.std.proofs.lemmas.Int.{ints, to_z_pos}
use mir.Syntax.{w128}
use mir.Val.{to_z}
use Rattle.ember_algebra.proofs.Exact.{kept, narrow, ◌&◌, done, exact}
use Rattle.mesh_point.proofs.floor_turns.clear_turn.Goals as goal

pub returns-then-turn-most : goal.returns-then-turn-most
returns-then-turn-most c =
    let a = exact (c.requires.a & done) (narrow 0) tt in let b = exact (c.requires.b & done) (narrow 0) tt in
    let e = exact (c.requires.c & done) (narrow 0) tt in let d = exact (c.requires.d & done) (narrow 0) tt in
    let t = rw (a, b, e, d) at c.turn_of-turn.ensures.value in let m = rw (a, b, e, d) at c.most_change-most.ensures.value in
    let k = exact (c.turn_of-turn.ensures.small & done) (kept 0) tt in
    let n = to_z_pos w128 c.most_change-most.result (omega (arith, c.most_change-most.ensures.small)) in
    omega (arith, ints, t, m, k, n, c.if-turn-most.true)

pub returns-then-turn-most-2 : goal.returns-then-turn-most-2
returns-then-turn-most-2 c =
    let a = exact (c.requires.a & done) (narrow 0) tt in let b = exact (c.requires.b & done) (narrow 0) tt in
    let e = exact (c.requires.c & done) (narrow 0) tt in let d = exact (c.requires.d & done) (narrow 0) tt in
    let t = rw (a, b, e, d) at c.turn_of-turn.ensures.value in let m = rw (a, b, e, d) at c.most_change-most.ensures.value in
    let k = exact (c.turn_of-turn.ensures.small & done) (kept 0) tt in
    let n = to_z_pos w128 c.most_change-most.result (omega (arith, c.most_change-most.ensures.small)) in
    omega (arith, ints, t, m, k, n, c.if-turn-most-2.true)
