use Rattle.std.proofs.Common.{arith}
use Rattle.ember_obj.proofs.Cuts.{last_physical, first_physical}
use Rattle.ember_obj.proofs.lines.next_line.Goals as goal

pub returns-in-None-clause-lines : goal.returns-in-None-clause-lines
returns-in-None-clause-lines c = last_physical c.args.bytes.now c.trim_return.result.now c.cut_before.result.1.now
    (grind arith) c.cut_before.ensures.onward c.in-None.ensures.cases
    (rw c.cut_before.ensures.before at c.trim_return.ensures)

pub returns-in-Some-clause-lines : goal.returns-in-Some-clause-lines
returns-in-Some-clause-lines c = first_physical c.args.bytes.now c.trim_return-in-Some.result.now
    c.cut_before.result.1.now c.in-Some.after.now c.in-Some.field-0-0.now c.cut_before.ensures.onward
    c.in-Some.ensures.cases.0 (rw c.cut_before.ensures.before at c.trim_return-in-Some.ensures)
