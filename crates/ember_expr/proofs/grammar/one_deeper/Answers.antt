use Rattle.std.proofs.Common.{arith, ◌≡◌, ap, suc, ◌-◌}
use Rattle.ember_expr.specs.Grammar.{deeper}
use Rattle.ember_expr.proofs.grammar.one_deeper.Goals as goal

pub returns-else-depth_left-eq0-clause-rule : goal.returns-else-depth_left-eq0-clause-rule
returns-else-depth_left-eq0-clause-rule c =
    let more : c.args.depth_left ≡ suc (c.args.depth_left - 1) = omega arith in
    λ scope. ap (deeper scope) more

pub returns-else-depth_left-eq0-clause-one_less : goal.returns-else-depth_left-eq0-clause-one_less
returns-else-depth_left-eq0-clause-one_less c = omega arith
