use Rattle.std.proofs.Common.{[], refl}
use Rattle.ember_io.specs.Calls.{shelf_call, sink_call}
use Rattle.mesh_run.specs.Calls.{target_call}
use Rattle.mesh_run.specs.Causes.{IsReadingCause}
use Rattle.mesh_refusal.specs.Said.{memory_said, reading_said}
use Rattle.mesh_run.specs.Serves.{IsPageFor, WritesPage}
use Rattle.mesh_run.proofs.UnmetRequests.{said_status_ends, said_status_tells_memory}
use Rattle.mesh_run.proofs.views.serve_view.Goals as goal

pub returns-in-Ok-clause-outcome : goal.returns-in-Ok-clause-outcome
returns-in-Ok-clause-outcome g c = ([], c.in-Ok.ensures.written, c.say.ensures)

pub returns-in-Err-clause-outcome : goal.returns-in-Err-clause-outcome
returns-in-Err-clause-outcome g c =
    let shelf = shelf_call g.S.Shelf.contents g.S.Shelf.faults g.S.Shelf.fault_at g.S.Shelf.fault_kind c.args.shelf.now c.write_view.new.shelf in
    let target = target_call g.T.Target.held g.T.Target.begun g.T.Target.faults c.args.target.now c.write_view.new.target in
    let err = sink_call g.E.Sink.taken g.E.Sink.flushed g.E.Sink.faults c.args.err.now c.say_why.new.err in
    let request = c.args.request.now in
    said_status_ends (IsReadingCause request.files shelf) (IsPageFor request shelf.told) target
    (WritesPage request shelf target) (reading_said c.args.json request.files) (memory_said c.args.json) refl (λ h. h) c.in-Err.status c.say_why.result err
    c.reading_said-said.result c.in-Err.ensures.stop c.reading_said-said.ensures c.say_why.ensures.said
    c.say_why.ensures.memory

pub returns-in-Err-clause-memory : goal.returns-in-Err-clause-memory
returns-in-Err-clause-memory g c =
    let shelf = shelf_call g.S.Shelf.contents g.S.Shelf.faults g.S.Shelf.fault_at g.S.Shelf.fault_kind c.args.shelf.now c.write_view.new.shelf in
    let target = target_call g.T.Target.held g.T.Target.begun g.T.Target.faults c.args.target.now c.write_view.new.target in
    let request = c.args.request.now in
    said_status_tells_memory (IsReadingCause request.files shelf) (IsPageFor request shelf.told) target _ _
    c.in-Err.status c.say_why.result c.reading_said-said.result c.in-Err.ensures.stop c.say_why.ensures.said
    c.say_why.ensures.memory
