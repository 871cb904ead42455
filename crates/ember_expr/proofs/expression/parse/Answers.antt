use Rattle.std.proofs.Common.{Bool, inr, ap, cond, Err, length, arith}
use Rattle.std.proofs.lemmas.Bool.{lt-leb}
use Rattle.ember_expr.specs.declared.fault.ExprFault.TheVariants.{Long}
use Rattle.ember_expr.specs.Formula.{formula_of}
use Rattle.ember_expr.specs.Grammar.{whole}
use Rattle.ember_expr.specs.Tokens.{tokens_of}
use Rattle.ember_expr.proofs.TreeLimits.{fit_more}
use Rattle.ember_expr.proofs.expression.parse.Goals as goal

pub invariant_of-result : goal.invariant_of-result
invariant_of-result c =
    fit_more c.args.meshes 64 c.requires (formula_of c.in_ok-tree.tree) c.in_ok-tree.ensures.fit

pub returns-then-text-gt-MOST_BYTES-clause-fault : goal.returns-then-text-gt-MOST_BYTES-clause-fault
returns-then-text-gt-MOST_BYTES-clause-fault c =
    let text = c.args.text.now in
    inr (ap (λ (b : Bool). cond b (whole (record { meshes = c.args.meshes; end = length text }) 64 (tokens_of text))
    (Err Long)) (lt-leb (length text) 4096 (omega arith)))
