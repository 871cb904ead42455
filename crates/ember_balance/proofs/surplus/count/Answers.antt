use Rattle.std.proofs.Common.{◌∙◌, ap, arith}
use Rattle.std.proofs.lemmas.List.{take_all}
use Rattle.ember_balance.specs.Counts.{count}
use Rattle.ember_balance.proofs.SortedSurplus.{count_yes, count_no}
use Rattle.ember_balance.proofs.surplus.count.Goals.{then-number-other, else-number-other}
use Rattle.ember_balance.proofs.surplus.count.Goals as goal

pub loop-other-preserved : goal.loop-other-preserved
loop-other-preserved c =
    elim c.if-number-other.branch [
      | then-number-other w ↦ let n = count_yes c.args.number c.args.numbers.now c.loop-other.other-index c.loop-other-test.true w.if-number-other.true in
          (omega (arith, w.found-is, n, c.loop-other.invariant.0), omega (arith, w.found-is, c.loop-other.invariant.1))
      | else-number-other w ↦ let n = count_no c.args.number c.args.numbers.now c.loop-other.other-index c.loop-other-test.true w.if-number-other.false in
          (omega (arith, w.found-is, n, c.loop-other.invariant.0), omega (arith, w.found-is, c.loop-other.invariant.1))
    ]

pub returns : goal.returns
returns c =
    c.loop-other.invariant.0 ∙ ap (count c.args.number) (take_all c.loop-other.other-index c.args.numbers.now c.loop-other-test.false)
