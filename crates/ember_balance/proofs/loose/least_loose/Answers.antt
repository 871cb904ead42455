use Rattle.std.proofs.Common.{Some, None, arith}
use Rattle.ember_balance.proofs.Sorted.{balanced_from, least_loose_from, found_small, few_there, few_back, none_at, first_at}
use Rattle.ember_balance.proofs.Least.{loose_is}
use Rattle.ember_balance.proofs.loose.least_loose.Goals as goal

pub returns-in-None-clause-meaning : goal.returns-in-None-clause-meaning
returns-in-None-clause-meaning c =
    balanced_from c.args.tris.now c.requires.within _ _ c.in_ok-numbers.ensures (none_at c.deref.ensures.value c.deref-2.ensures.value c.in-None.ensures)

pub returns-in-None-clause-value : goal.returns-in-None-clause-value
returns-in-None-clause-value c =
    loose_is c.args.tris.now None (balanced_from c.args.tris.now c.requires.within _ _ c.in_ok-numbers.ensures
    (none_at c.deref.ensures.value c.deref-2.ensures.value c.in-None.ensures))

pub loose_with-requires-clause-number : goal.loose_with-requires-clause-number
loose_with-requires-clause-number c =
    found_small c.args.tris.now c.requires.within _ _ c.in_ok-numbers.ensures _ (first_at _ c.deref.ensures.value c.deref-2.ensures.value c.in-Some.ensures)

pub loose_with-requires-clause-there : goal.loose_with-requires-clause-there
loose_with-requires-clause-there c =
    let n = few_there c.args.tris.now _ _ c.in_ok-numbers.ensures in omega (arith, n, c.requires.few)

pub loose_with-requires-clause-back : goal.loose_with-requires-clause-back
loose_with-requires-clause-back c =
    let n = few_back c.args.tris.now _ _ c.in_ok-numbers.ensures in omega (arith, n, c.requires.few)

pub returns-clause-meaning : goal.returns-clause-meaning
returns-clause-meaning c =
    least_loose_from c.args.tris.now c.requires.within _ _ c.in_ok-numbers.ensures c.loose_with.result _
    (first_at _ c.deref.ensures.value c.deref-2.ensures.value c.in-Some.ensures) c.loose_with.ensures.edge
    c.loose_with.ensures.there c.loose_with.ensures.back

pub returns-clause-value : goal.returns-clause-value
returns-clause-value c =
    loose_is c.args.tris.now (Some c.loose_with.result)
    (least_loose_from c.args.tris.now c.requires.within _ _ c.in_ok-numbers.ensures c.loose_with.result _
    (first_at _ c.deref.ensures.value c.deref-2.ensures.value c.in-Some.ensures) c.loose_with.ensures.edge
    c.loose_with.ensures.there c.loose_with.ensures.back)
