use Rattle.std.proofs.Common.{List, ℕ, sym, ◌∙◌, subst}
use Rattle.std.proofs.lemmas.List.{take_all}
use Rattle.ember_balance.specs.Tallies.{IsTallied}
use Rattle.ember_balance.proofs.TwoWay.{two_way_from}
use Rattle.ember_balance.proofs.two_way.are_two_way.Goals as goal

pub returns : goal.returns
returns c = λ t.
    let ks = c.args.numbers.now in let k = c.loop-number.tally in
    two_way_from ks k (subst (λ (us : List ℕ). IsTallied us k)
    (take_all c.loop-number.number-index ks c.loop-number-test.false) c.loop-number.invariant.tallied)
    (sym c.is_even.ensures ∙ t)
