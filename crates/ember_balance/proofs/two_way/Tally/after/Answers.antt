use Rattle.std.proofs.Common.{◌∙◌, sym, arith}
use Rattle.ember_balance.proofs.TwoWay.{tallied_same, tallied_other}
use Rattle.ember_balance.proofs.two_way.Tally.after.Goals as goal

pub returns-then-number-self-clause-tallied : goal.returns-then-number-self-clause-tallied
returns-then-number-self-clause-tallied c = λ ks h. tallied_same ks c.args.self.now c.args.two_way h c.if-number-self.true (omega arith) (omega arith)

pub returns-then-is_even-clause-tallied : goal.returns-then-is_even-clause-tallied
returns-then-is_even-clause-tallied c = λ ks h. tallied_other ks c.args.self.now c.args.two_way h
    (sym c.is_even.ensures ∙ c.if-is_even.true) (omega arith) (omega arith)
