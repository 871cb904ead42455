use Rattle.std.proofs.Common.{List, ℕ, refl, subst, arith}
use Rattle.ember_io.specs.Calls.{TakesUntilFault, shelf_call, sink_call}
use Rattle.mesh_run.specs.Calls.{target_call}
use Rattle.mesh_run.specs.Causes.{IsSnapStop}
use Rattle.mesh_refusal.specs.Said.{memory_said, snap_said}
use Rattle.mesh_run.specs.Serves.{AreSnapFilesFor, WritesScene}
use Rattle.mesh_run.proofs.Shown.{snap_stop_is_shown}
use Rattle.mesh_run.proofs.UnmetRequests.{said_status_ends, said_status_tells_memory, unmet_is_shown}
use Rattle.mesh_run.proofs.snaps.serve_snap.Goals as goal

pub snap_said-said-requires : goal.snap_said-said-requires
snap_said-said-requires g c =
    let shelf = shelf_call g.S.Shelf.contents g.S.Shelf.faults g.S.Shelf.fault_at g.S.Shelf.fault_kind c.args.shelf.now c.write_scene.new.shelf in
    let target = target_call g.T.Target.held g.T.Target.begun g.T.Target.faults c.args.target.now c.write_scene.new.target in
    let request = c.args.request.now in
    unmet_is_shown (IsSnapStop request shelf) (AreSnapFilesFor request shelf.told) target
    (snap_stop_is_shown request shelf (omega (arith, c.requires.limits.files))) c.in-Err.status c.in-Err.ensures.stop

pub returns-in-Ok-clause-outcome : goal.returns-in-Ok-clause-outcome
returns-in-Ok-clause-outcome g c =
    let err = sink_call g.E.Sink.taken g.E.Sink.flushed g.E.Sink.faults c.args.err.now c.say.new.err in
    (c.in-Ok.report.items, c.in-Ok.ensures.written, subst (λ (text : List ℕ). TakesUntilFault err text) c.deref.ensures.value c.say.ensures)

pub returns-in-Err-clause-outcome : goal.returns-in-Err-clause-outcome
returns-in-Err-clause-outcome g c =
    let shelf = shelf_call g.S.Shelf.contents g.S.Shelf.faults g.S.Shelf.fault_at g.S.Shelf.fault_kind c.args.shelf.now c.write_scene.new.shelf in
    let target = target_call g.T.Target.held g.T.Target.begun g.T.Target.faults c.args.target.now c.write_scene.new.target in
    let err = sink_call g.E.Sink.taken g.E.Sink.flushed g.E.Sink.faults c.args.err.now c.say_why.new.err in
    let request = c.args.request.now in
    said_status_ends (IsSnapStop request shelf) (AreSnapFilesFor request shelf.told) target
    (WritesScene c.args.json request shelf target) (snap_said c.args.json request) (memory_said c.args.json) refl (λ h. h.cause) c.in-Err.status c.say_why.result err
    c.snap_said-said.result c.in-Err.ensures.stop c.snap_said-said.ensures c.say_why.ensures.said
    c.say_why.ensures.memory

pub returns-in-Err-clause-memory : goal.returns-in-Err-clause-memory
returns-in-Err-clause-memory g c =
    let shelf = shelf_call g.S.Shelf.contents g.S.Shelf.faults g.S.Shelf.fault_at g.S.Shelf.fault_kind c.args.shelf.now c.write_scene.new.shelf in
    let target = target_call g.T.Target.held g.T.Target.begun g.T.Target.faults c.args.target.now c.write_scene.new.target in
    let request = c.args.request.now in
    said_status_tells_memory (IsSnapStop request shelf) (AreSnapFilesFor request shelf.told) target _ _ c.in-Err.status
    c.say_why.result c.snap_said-said.result c.in-Err.ensures.stop c.say_why.ensures.said c.say_why.ensures.memory
