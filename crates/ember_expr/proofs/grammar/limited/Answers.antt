use Rattle.std.proofs.Common.{Bool, sym, ap, Ok, Err, cond}
use Rattle.std.proofs.lemmas.Bool.{le-leb, lt-leb}
use Rattle.ember_expr.specs.declared.fault.ExprFault.TheVariants as fault
use Rattle.ember_expr.proofs.grammar.limited.Goals as goal

pub returns-then-number-le1000000 : goal.returns-then-number-le1000000
returns-then-number-le1000000 c =
    sym (ap (λ (b : Bool). cond b (Ok c.args.number) (Err (fault.Number c.args.place))) (le-leb c.args.number 1000000 c.if-number-le1000000.true))

pub returns-else-number-le1000000 : goal.returns-else-number-le1000000
returns-else-number-le1000000 c =
    sym (ap (λ (b : Bool). cond b (Ok c.args.number) (Err (fault.Number c.args.place))) (lt-leb c.args.number 1000000 c.if-number-le1000000.false))
