use Rattle.std.proofs.Common.{◌∙◌, add-one, arith}
use Rattle.ember_dec.proofs.Capped.{digit_more}
use Rattle.ember_dec.proofs.digits.append_digits.Goals as goal

pub loop-digit-preserved : goal.loop-digit-preserved
loop-digit-preserved c = record {
  same = rw (add-one, c.min-value.ensures, c.from.ensures)
      (c.loop-digit.invariant.same ∙ digit_more c.args.limit c.loop-digit.value c.loop-digit.digit-index c.args.digits.now
      c.loop-digit-test.true);
  small = omega arith;
}
