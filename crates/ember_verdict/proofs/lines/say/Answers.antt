use Rattle.std.proofs.Common.{arith}
use Rattle.ember_verdict.proofs.ErrTexts.{piece_said, piece_stopped}
use Rattle.ember_verdict.proofs.lines.say.Goals as goal

pub returns-in_default : goal.returns-in_default
returns-in_default g c =
    let t = c.loop-piece.invariant.taken in
    piece_stopped _ _ _ _ _ _ _ _ _ _ t.0 c.loop-piece.invariant.later c.write_all.ensures.cause.later
    c.in_default.ensures.cause.failed c.loop-piece-test.true t.1 t.2 c.in_default.ensures.prefix

pub loop-piece-preserved : goal.loop-piece-preserved
loop-piece-preserved g c =
    let t = c.loop-piece.invariant.taken in
    record { later = omega arith; taken = piece_said _ _ _ _ _ _ _ t.0 c.loop-piece-test.true t.1 t.2 c.in-Ok.ensures.taken }
