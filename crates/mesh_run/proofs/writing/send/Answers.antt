use Rattle.std.proofs.Common.{ℕ, List, refl, subst}
use Rattle.std.specs.Io.KnownBytes.{Appends}
use Rattle.ember_io.specs.Sinks.{AppendsPrefix}
use Rattle.mesh_refusal.specs.Said.{output_said}
use Rattle.ember_io.specs.Calls.{TakesUntilFault, sink_call}
use Rattle.mesh_run.proofs.writing.send.Goals as goal

pub returns-in-None-clause-outcome : goal.returns-in-None-clause-outcome
returns-in-None-clause-outcome g c = rw c.in-None.is (c.args.report.now, (refl, refl, refl), c.say.ensures)

pub returns-in-Ok-clause-outcome : goal.returns-in-Ok-clause-outcome
returns-in-Ok-clause-outcome g c =
    let e = c.in-Ok.ensures in
    let taken = subst (λ (bytes : List ℕ). Appends (g.O.Sink.taken c.args.out.now) (g.O.Sink.taken c.write_all.new.sink) bytes)
    c.deref.ensures.value e.taken in
    rw c.in-Some.is (c.args.report.now, (record { taken = taken; flushed = e.flushed }, refl), c.say-in-Ok.ensures)

pub returns-in-Err-clause-outcome : goal.returns-in-Err-clause-outcome
returns-in-Err-clause-outcome g c =
    let e = c.in-Err.ensures in
    let prefix = subst (λ (bytes : List ℕ). AppendsPrefix (g.O.Sink.taken c.args.out.now) (g.O.Sink.taken c.write_all.new.sink)
    bytes) c.deref.ensures.value e.prefix in
    let err = sink_call g.E.Sink.taken g.E.Sink.flushed g.E.Sink.faults c.args.err.now c.say-in-Err.new.err in
    rw c.in-Some.is (
      output_said c.args.json,
      (record { failed = e.cause.failed; prefix = prefix }, refl),
      subst (λ (text : List ℕ). TakesUntilFault err text) c.output_said.ensures c.say-in-Err.ensures,
    )
