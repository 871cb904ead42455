use Rattle.std.proofs.Common.{rules, ◌≡◌, sym, ◌∙◌}
use Rattle.ember_expr.specs.declared.trees.Rel.TheVariants.{NotEqual}
use Rattle.ember_expr.specs.declared.token.Word.TheVariants.{Bang}
use Rattle.ember_expr.specs.Tokens.{lexeme_of, before_equals}
use Rattle.ember_expr.proofs.token.longest.Goals as goal

pub returns-in-33-clause-lexeme : goal.returns-in-33-clause-lexeme
returns-in-33-clause-lexeme c =
    let word : lexeme_of c.args.first c.args.after.now ≡ before_equals Bang NotEqual c.args.after.now = search rules in
    c.equals.ensures.lexeme ∙ sym word
