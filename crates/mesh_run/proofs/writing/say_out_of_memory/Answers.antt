use Rattle.std.proofs.Common.{ℕ, List, subst}
use Rattle.ember_io.specs.Calls.{TakesUntilFault, sink_call}
use Rattle.mesh_run.proofs.writing.say_out_of_memory.Goals as goal

pub returns : goal.returns
returns g c =
    let err = sink_call g.E.Sink.taken g.E.Sink.flushed g.E.Sink.faults c.args.err.now c.say.new.err in
    subst (λ (text : List ℕ). TakesUntilFault err text) c.memory_said.ensures c.say.ensures
