use Rattle.std.proofs.Common.{ap, ◌∙◌}
use Rattle.ember_expr.specs.Formula.{formula_of}
use Rattle.ember_known.specs.Masks.{is_in}
use Rattle.ember_known.specs.Known.{known}
use Rattle.ember_known.proofs.Decided.{known_same, decided_if}
use Rattle.ember_known.proofs.truth.known.Goals as goal

pub returns-clause-same : goal.returns-clause-same
returns-clause-same c = λ undecided same.
    c.known_in.ensures ∙ ap (λ t. known (is_in c.args.m.now.0) c.args.v.now.counts (formula_of t)) c.tree.ensures.tree
    ∙ known_same (is_in c.args.m.now.0) undecided same c.args.v.now.counts (formula_of c.args.e.now)
    c.tree.ensures.fit

pub returns-clause-law : goal.returns-clause-law
returns-clause-law c =
    decided_if (is_in c.args.m.now.0) c.args.v.now.counts (formula_of c.args.e.now) c.tree.ensures.fit c.known_in.result
    (c.known_in.ensures ∙ ap (λ t. known (is_in c.args.m.now.0) c.args.v.now.counts (formula_of t))
    c.tree.ensures.tree)
