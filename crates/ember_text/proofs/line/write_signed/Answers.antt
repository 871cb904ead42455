use Rattle.std.proofs.Common.{◌≡◌, ◌+◌, ◌-◌, ◌++◌, drop, ap, arith, to_z-of_z}
use Rattle.std.proofs.lemmas.List.{drop-set}
use Rattle.itoa.proofs.Decimal.{minus_first, length_wide}
use Rattle.ember_text.proofs.line.write_signed.Goals as goal

pub overflow_sub-line : goal.overflow_sub-line
overflow_sub-line c = omega (arith, length_wide c.unsigned_abs.result c.unsigned_abs.type_inv)

pub overflow_sub-result : goal.overflow_sub-result
overflow_sub-result c = omega (arith, length_wide c.unsigned_abs.result c.unsigned_abs.type_inv)

pub returns-clause-written : goal.returns-clause-written
returns-clause-written c =
    let w = c.write_size-start in
    let long = length_wide c.unsigned_abs.result c.unsigned_abs.type_inv in
    let e : w.result - 1 + 1 ≡ w.result = omega arith in
    let back = to_z-of_z c.ranges.n in
    rw (drop-set w.new.line (w.result - 1) 45 (omega arith), e, w.ensures.written, c.unsigned_abs.ensures.value, back)
    (ap (λ t. t ++ drop c.args.end c.args.line.now) (minus_first c.args.n (rw back at c.if-n-ge0.false)))

pub returns-then-n-ge0-clause-start : goal.returns-then-n-ge0-clause-start
returns-then-n-ge0-clause-start c =
    let long = length_wide c.unsigned_abs.result c.unsigned_abs.type_inv in let s = c.write_size-start.ensures.start in
    (omega (arith, s), omega (arith, s, long))

pub returns-clause-start : goal.returns-clause-start
returns-clause-start c =
    let long = length_wide c.unsigned_abs.result c.unsigned_abs.type_inv in let s = c.write_size-start.ensures.start in
    (omega (arith, s), omega (arith, s, long))
