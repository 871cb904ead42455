use Rattle.std.proofs.Common.{refl}
use Rattle.steal_core.proofs.CodeSteps.{equal_self, in_another_hand}
use Rattle.steal_core.proofs.state.held.Goals as goal

pub returns-then-hand-by : goal.returns-then-hand-by
returns-then-hand-by c = rw (c.in-Hand.is, c.if-hand-by.true, equal_self c.args.by) refl

pub returns-else-hand-by : goal.returns-else-hand-by
returns-else-hand-by c = in_another_hand c.in-Hand.hand c.args.by c.args.path c.args.placed.now c.in-Hand.is c.if-hand-by.false

pub returns-in-Deque : goal.returns-in-Deque
returns-in-Deque c = rw c.in-Deque.is refl

pub returns-in-Ended : goal.returns-in-Ended
returns-in-Ended c = rw c.in-Ended.is refl
