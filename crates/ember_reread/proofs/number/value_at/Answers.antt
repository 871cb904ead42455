use Rattle.std.proofs.Common.{drop, arith}
use Rattle.ember_dec.specs.Digits.{digits_of}
use Rattle.ember_dec.proofs.Numbers.{number_from-grows}
use Rattle.ember_reread.proofs.number.value_at.Goals as goal

pub returns-then-value-most : goal.returns-then-value-most
returns-then-value-most c =
    let at = c.loop-end in
    rw at.invariant.value (omega (arith, c.if-value-most.true, number_from-grows at.value (digits_of (drop at.end c.args.bytes.now))))
