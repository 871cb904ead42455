use Rattle.std.proofs.Common.{arith}
use Rattle.mesh_number.proofs.Doublings.{raised_below, raised_reached}
use Rattle.mesh_number.proofs.number.binary_sizes.raised.Goals as goal

pub returns-then-size-lt-LIMIT-clause-value : goal.returns-then-size-lt-LIMIT-clause-value
returns-then-size-lt-LIMIT-clause-value c =
    rw (c.min.ensures, c.from.ensures, c.from-then-size-lt-LIMIT.ensures)
    (raised_below c.args.significand c.args.places c.args.factor (omega arith) (rw (c.min.ensures, c.from.ensures) at c.if-size-lt-LIMIT.true))

pub returns-else-size-lt-LIMIT-clause-value : goal.returns-else-size-lt-LIMIT-clause-value
returns-else-size-lt-LIMIT-clause-value c =
    raised_reached c.args.significand c.args.places c.args.factor (omega arith) (rw (c.min.ensures, c.from.ensures) at c.if-size-lt-LIMIT.false)
