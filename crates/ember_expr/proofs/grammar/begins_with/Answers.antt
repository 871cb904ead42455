use Rattle.std.proofs.Common.{rules, ◌≡◌, sym, true}
use Rattle.ember_expr.specs.Grammar.{begins_with}
use Rattle.ember_expr.proofs.grammar.begins_with.Goals as goal

pub returns-in-And-Amp : goal.returns-in-And-Amp
returns-in-And-Amp c =
    let joins : begins_with c.args.kind c.args.tokens.now ≡ true = search rules in
    sym joins
