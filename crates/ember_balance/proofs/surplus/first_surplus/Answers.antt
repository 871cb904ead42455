use Rattle.std.proofs.Common.{◌∙◌, Some, None, slice_index_or, arith}
use Rattle.ember_balance.proofs.SortedSurplus.{answered, walk_no_first, walk_stops, walk_no_second}
use Rattle.ember_balance.proofs.surplus.first_surplus.Goals as goal

pub returns-then-i-there : goal.returns-then-i-there
returns-then-i-there c =
    answered c.args.there.now c.args.back.now c.requires.there c.requires.back None
    (c.loop-number.invariant.1 ∙ walk_no_first c.args.there.now c.args.back.now c.loop-number.i
    c.loop-number.number-index (omega (arith, c.if-i-there.true)))

pub returns-then-there-i : goal.returns-then-there-i
returns-then-there-i c =
    answered c.args.there.now c.args.back.now c.requires.there c.requires.back
    (Some (slice_index_or c.args.there.now c.loop-number.i 0))
    (c.loop-number.invariant.1 ∙ walk_stops c.args.there.now c.args.back.now c.loop-number.i
    c.loop-number.number-index (omega (arith, c.loop-number.invariant.0, c.if-i-there.false)) c.loop-number-test.true
    c.if-there-i.true)

pub returns-then-i-there-2 : goal.returns-then-i-there-2
returns-then-i-there-2 c =
    answered c.args.there.now c.args.back.now c.requires.there c.requires.back
    (Some (slice_index_or c.args.there.now c.loop-number.i 0))
    (c.loop-number.invariant.1 ∙ walk_no_second c.args.there.now c.args.back.now c.loop-number.i
    c.loop-number.number-index c.loop-number-test.false c.if-i-there-2.true)

pub returns-else-i-there-2 : goal.returns-else-i-there-2
returns-else-i-there-2 c =
    answered c.args.there.now c.args.back.now c.requires.there c.requires.back None
    (c.loop-number.invariant.1 ∙ walk_no_first c.args.there.now c.args.back.now c.loop-number.i
    c.loop-number.number-index c.if-i-there-2.false)
