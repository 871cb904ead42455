use Rattle.std.proofs.Common.{ℕ, List, [], refl, subst}
use Rattle.mesh_refusal.specs.Said.{output_said}
use Rattle.ember_io.specs.Calls.{TakesUntilFault, sink_call}
use Rattle.mesh_run.proofs.writing.write_bytes.Goals as goal

pub returns-in-Ok-clause-outcome : goal.returns-in-Ok-clause-outcome
returns-in-Ok-clause-outcome g c =
    let e = c.in-Ok.ensures in
    ([], (record { taken = e.taken; flushed = e.flushed }, refl), c.say.ensures)

pub returns-in-Err-clause-outcome : goal.returns-in-Err-clause-outcome
returns-in-Err-clause-outcome g c =
    let e = c.in-Err.ensures in
    let err = sink_call g.E.Sink.taken g.E.Sink.flushed g.E.Sink.faults c.args.err.now c.say-in-Err.new.err in (
      output_said c.args.json,
      (record { failed = e.cause.failed; prefix = e.prefix }, refl),
      subst (λ (text : List ℕ). TakesUntilFault err text) c.output_said.ensures c.say-in-Err.ensures,
    )
