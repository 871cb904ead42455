use Rattle.std.proofs.Common.{◌∙◌, ap, rules}
use Rattle.ember_box.specs.Near.{listed}
use Rattle.ember_box.specs.Halving as halvings
use Rattle.ember_box.proofs.Lists.{is_leaf_listed}
use Rattle.ember_box.proofs.sums.is_leaf.Goals as goal

pub returns-clause-leaf : goal.returns-clause-leaf
returns-clause-leaf c = search rules

pub returns-clause-near : goal.returns-clause-near
returns-clause-near c e =
    let ts = c.args.s.now.tris in let cell = c.args.c.now in
    returns-clause-leaf c ∙ ap (λ list. halvings.is_leaf (listed ts list) cell) e ∙ is_leaf_listed 0 ts cell
