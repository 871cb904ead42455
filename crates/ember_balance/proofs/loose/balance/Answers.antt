use Rattle.std.proofs.Common.{None}
use Rattle.ember_balance.proofs.Least.{loose_is}
use Rattle.ember_balance.proofs.loose.balance.Goals as goal

pub returns-then-branch-clause-value : goal.returns-then-branch-clause-value
returns-then-branch-clause-value c =
    loose_is c.args.tris.now None (c.in_ok-are_balanced.ensures c.if-branch.true)
