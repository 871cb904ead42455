use Rattle.std.proofs.Common.{rules, ◌≡◌, sym}
use Rattle.ember_expr.specs.declared.fault.ExprFault.TheVariants.{Syntax}
use Rattle.ember_expr.specs.Grammar.{misplaced}
use Rattle.ember_expr.proofs.grammar.misplaced.Goals as goal

pub returns-in-Some : goal.returns-in-Some
returns-in-Some c =
    let fault : misplaced c.args.scope c.args.tokens.now ≡ Syntax c.in-Some.token.now.place = search rules in
    sym fault

pub returns-in-None : goal.returns-in-None
returns-in-None c =
    let fault : misplaced c.args.scope c.args.tokens.now ≡ Syntax c.args.scope.end = search rules in
    sym fault
