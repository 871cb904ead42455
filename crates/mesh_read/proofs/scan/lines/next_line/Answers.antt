use Rattle.std.proofs.Common.{arith}
use Rattle.mesh_read.proofs.Cuts.{last_cut, first_cut}
use Rattle.mesh_read.proofs.scan.lines.next_line.Goals as goal

pub returns-then-is_empty-2-clause-lines : goal.returns-then-is_empty-2-clause-lines
returns-then-is_empty-2-clause-lines c = last_cut c.args.part.start c.cut_before.result.0.start
    c.cut_before.result.1.start c.args.part.bytes.now c.cut_before.result.0.bytes.now c.cut_before.result.1.bytes.now
    (grind arith) c.cut_before.ensures.onward (grind arith) c.cut_before.ensures.before c.cut_before.ensures.start

pub returns-clause-lines : goal.returns-clause-lines
returns-clause-lines c = first_cut c.args.part.start c.cut_before.result.0.start c.cut_before.result.1.start
    c.split_at.result.1.start c.args.part.bytes.now c.cut_before.result.0.bytes.now c.cut_before.result.1.bytes.now
    c.split_at.result.1.bytes.now (grind arith) c.cut_before.ensures.onward c.cut_before.ensures.before
    c.cut_before.ensures.start c.cut_before.ensures.next c.split_at.ensures.second.0 c.split_at.ensures.second.1
