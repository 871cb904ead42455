use Rattle.std.proofs.Common.{List, ℕ, refl, subst}
use Rattle.ember_io.specs.Calls.{TakesUntilFault, sink_call}
use Rattle.mesh_run.proofs.writing.say_why.Goals as goal

pub returns-in-Ok-clause-said : goal.returns-in-Ok-clause-said
returns-in-Ok-clause-said g c =
    let err = sink_call g.E.Sink.taken g.E.Sink.flushed g.E.Sink.faults c.args.err.now c.say.new.err in
    rw c.in-Ok.is (refl, subst (λ (text : List ℕ). TakesUntilFault err text) c.deref.ensures.value c.say.ensures)

pub returns-in-Err-clause-memory : goal.returns-in-Err-clause-memory
returns-in-Err-clause-memory g c = rw c.in-Err.is (refl, c.say_out_of_memory.ensures)
