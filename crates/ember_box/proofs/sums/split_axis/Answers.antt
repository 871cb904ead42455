use Rattle.std.proofs.Common.{◌<◌, ◌∙◌, sym, subst, ap, rules}
use Rattle.ember_box.specs.Near.{listed}
use Rattle.ember_box.specs.Halving.{halving_axis}
use Rattle.ember_box.proofs.Halvable.{halvable_along}
use Rattle.ember_box.proofs.Lists.{halving_axis_listed}
use Rattle.ember_box.proofs.sums.split_axis.Goals as goal

pub returns-clause-axis : goal.returns-clause-axis
returns-clause-axis c = search rules

pub returns-clause-near : goal.returns-clause-near
returns-clause-near c e =
    let ts = c.args.s.now.tris in let cell = c.args.c.now in
    returns-clause-axis c ∙ ap (λ list. halving_axis (listed ts list) cell) e ∙ halving_axis_listed 0 ts cell

pub returns-clause-halvable : goal.returns-clause-halvable
returns-clause-halvable c = λ k may.
    let ts = listed c.args.s.now.tris c.args.list.now in let cell = c.args.c.now in
    subst (λ j. 0 < cell.log j) (sym (returns-clause-axis c)) (halvable_along 0 ts cell k may)
