use Rattle.std.proofs.Common.{List, ℕ, refl, subst}
use Rattle.ember_io.specs.Calls.{TakesUntilFault, sink_call}
use Rattle.mesh_run.proofs.top.refuse_words.Goals as goal

pub returns-in-Ok-clause-outcome : goal.returns-in-Ok-clause-outcome
returns-in-Ok-clause-outcome g c =
    let err = sink_call g.E.Sink.taken g.E.Sink.flushed g.E.Sink.faults c.args.err.now c.say.new.err in
    (c.in-Ok.text.items, (refl, c.in-Ok.ensures), subst (λ (text : List ℕ). TakesUntilFault err text) c.deref.ensures.value c.say.ensures)
