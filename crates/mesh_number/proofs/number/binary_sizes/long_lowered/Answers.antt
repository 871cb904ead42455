use Rattle.mesh_number.proofs.Doublings.{lowered_below}
use Rattle.mesh_number.proofs.number.binary_sizes.long_lowered.Goals as goal

pub returns-then-shifted-lt-LIMIT-clause-value : goal.returns-then-shifted-lt-LIMIT-clause-value
returns-then-shifted-lt-LIMIT-clause-value c =
    rw (c.shifted-then-shifted-lt-LIMIT.ensures.value, c.from-then-shifted-lt-LIMIT.ensures, c.from-then-shifted-lt-LIMIT-2.ensures)
    (lowered_below c.args.up c.args.significand c.args.places c.args.factor (rw (c.shifted.ensures.value, c.from.ensures) at c.if-shifted-lt-LIMIT.true))
