use Rattle.std.proofs.Common.{arith}
use Rattle.mesh_grid.proofs.Lengths.{root_exact, root_next}
use Rattle.mesh_effect.proofs.rounding.shown.root_above.Goals as goal

pub returns-then-again-square-clause-root : goal.returns-then-again-square-clause-root
returns-then-again-square-clause-root c =
    root_next c.args.square c.isqrt-root.result (omega (arith, c.if-again-square.true)) c.isqrt-root.ensures.next_square_gt

pub returns-else-again-square-clause-root : goal.returns-else-again-square-clause-root
returns-else-again-square-clause-root c =
    root_exact c.args.square c.isqrt-root.result c.isqrt-root.ensures.square_le (omega (arith, c.if-again-square.false))
