use Rattle.std.proofs.Common.{arith}
use Rattle.ember_width.proofs.ShortNumbers.{below_zero, above_zero, below_zero_small, above_zero_small}
use Rattle.ember_width.proofs.points.short_of.Goals as goal

pub returns-then-negative-clause-value : goal.returns-then-negative-clause-value
returns-then-negative-clause-value c = below_zero c.args.n.now (omega arith) (omega arith) c.if-negative.true

pub returns-then-negative-clause-small : goal.returns-then-negative-clause-small
returns-then-negative-clause-small c = below_zero_small c.args.n.now.size.low (omega arith)

pub returns-else-negative-clause-value : goal.returns-else-negative-clause-value
returns-else-negative-clause-value c = above_zero c.args.n.now (omega arith) (omega arith) c.if-negative.false

pub returns-else-negative-clause-small : goal.returns-else-negative-clause-small
returns-else-negative-clause-small c = above_zero_small c.args.n.now.size.low (omega arith)
