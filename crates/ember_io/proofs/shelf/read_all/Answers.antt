use Rattle.std.proofs.Common.{arith, rules, take, subst, sym, ◌∙◌}
use Rattle.std.specs.Io.KnownBytes.{Consumes}
use Rattle.ember_io.proofs.ToldBytes.{Consumes-append, TellsMore-step, success_has_appended}
use Rattle.ember_io.proofs.shelf.read_all.Goals as goal

pub returns-then-is_err-clause-read_fault : goal.returns-then-is_err-clause-read_fault
returns-then-is_err-clause-read_fault g c = λ e. absurd (cc)

pub returns-then-is_err-clause-fault_at : goal.returns-then-is_err-clause-fault_at
returns-then-is_err-clause-fault_at g c = λ e. absurd (cc)

pub returns-then-length-most-clause-told_longer : goal.returns-then-length-most-clause-told_longer
returns-then-length-most-clause-told_longer g c =
    λ n _. TellsMore-step _ _ _ _ _ _ _ c.loop-count.invariant.read c.in-Ok-read.ensures.bytes.0
    c.in-Ok-read.ensures.bound.0 (omega (arith, c.loop-count.bytes.ok.0))

pub loop-count-preserved : goal.loop-count-preserved
loop-count-preserved g c =
    let i = c.loop-count.invariant in
    let piece = take c.in-Ok-read.count c.read.new.buf in
    let went = sym c.is_err.ensures.value ∙ c.if-is_err.false in
    let longer = success_has_appended c.extend_from_slice.result c.loop-count.bytes.items piece
    c.extend_from_slice.new.self.items went c.extend_from_slice.ensures.items in
    let told = g.S.Shelf.contents c.args.shelf.now c.args.name.now in record {
      contents = c.in-Ok-read.ensures.contents ∙ i.contents;
      begun = c.in-Ok-read.ensures.begun ∙ i.begun;
      fault_at = c.in-Ok-read.ensures.mark ∙ i.fault_at;
      later = omega arith;
      read = subst (λ xs. Consumes told (g.S.Shelf.unread c.read.new.self) xs) (sym longer) (Consumes-append _ _ _ _ _ i.read c.in-Ok-read.ensures.bytes.0);
      most = search rules;
    }
