use Rattle.std.proofs.Common.{List, ℕ, Global, option_map, refl, subst}
use Rattle.std.specs.Prelude.{Vec}
use Rattle.ember_io.specs.Calls.{shelf_call, sink_call}
use Rattle.mesh_run.specs.Calls.{target_call}
use Rattle.mesh_run.specs.Exports.{IsExportStop}
use Rattle.mesh_refusal.specs.Said.{export_said, memory_said}
use Rattle.mesh_run.specs.Serves.{AreExportFilesFor, IsSent, IsExportUnmet, WritesExport}
use Rattle.mesh_run.proofs.Sent.{sent_status, written_ends}
use Rattle.mesh_run.proofs.UnmetRequests.{said_status_ends_on, said_status_tells_memory}
use Rattle.mesh_run.proofs.exports.serve_export.Goals as goal

pub returns-in-Ok-clause-outcome : goal.returns-in-Ok-clause-outcome
returns-in-Ok-clause-outcome g c =
    let shelf = shelf_call g.S.Shelf.contents g.S.Shelf.faults g.S.Shelf.fault_at g.S.Shelf.fault_kind c.args.shelf.now c.write_export.new.shelf in
    let target = target_call g.T.Target.held g.T.Target.begun g.T.Target.faults c.args.target.now c.write_export.new.target in
    let out = sink_call g.O.Sink.taken g.O.Sink.flushed g.O.Sink.faults c.args.out.now c.send.new.out in
    let request = c.args.request.now in
    let report = c.in-Ok.sending.report.items in
    let sent = option_map (λ (bytes : Vec ℕ Global). bytes.items) c.in-Ok.sending.sent in
    let status = c.send.result in
    let e = c.send.ensures.outcome in
    let is = subst (λ (said : List ℕ). IsSent c.args.json sent said out status e.0) c.deref.ensures.value e.1 in (
      e.0,
      written_ends out (WritesExport c.args.json request shelf target out) (IsExportUnmet request shelf target)
          (export_said c.args.json request) status e.0 (sent_status c.args.json sent report out status e.0 is)
          (record { sent = sent; report = report; puts = c.in-Ok.ensures.written; is_sent = is }),
      e.2,
    )

pub returns-in-Err-clause-outcome : goal.returns-in-Err-clause-outcome
returns-in-Err-clause-outcome g c =
    let shelf = shelf_call g.S.Shelf.contents g.S.Shelf.faults g.S.Shelf.fault_at g.S.Shelf.fault_kind c.args.shelf.now c.write_export.new.shelf in
    let target = target_call g.T.Target.held g.T.Target.begun g.T.Target.faults c.args.target.now c.write_export.new.target in
    let out = sink_call g.O.Sink.taken g.O.Sink.flushed g.O.Sink.faults c.args.out.now c.args.out.now in
    let err = sink_call g.E.Sink.taken g.E.Sink.flushed g.E.Sink.faults c.args.err.now c.say_why.new.err in
    let request = c.args.request.now in
    said_status_ends_on (IsExportStop request shelf) (AreExportFilesFor request shelf.told) target out
    (WritesExport c.args.json request shelf target out) (export_said c.args.json request) (memory_said c.args.json) refl (λ h. h) (λ h. h) refl c.in-Err.status c.say_why.result err
    c.export_said-said.result c.in-Err.ensures.stop c.export_said-said.ensures c.say_why.ensures.said
    c.say_why.ensures.memory

pub returns-in-Err-clause-memory : goal.returns-in-Err-clause-memory
returns-in-Err-clause-memory g c =
    let shelf = shelf_call g.S.Shelf.contents g.S.Shelf.faults g.S.Shelf.fault_at g.S.Shelf.fault_kind c.args.shelf.now c.write_export.new.shelf in
    let target = target_call g.T.Target.held g.T.Target.begun g.T.Target.faults c.args.target.now c.write_export.new.target in
    let request = c.args.request.now in
    said_status_tells_memory (IsExportStop request shelf) (AreExportFilesFor request shelf.told) target _ _
    c.in-Err.status c.say_why.result c.export_said-said.result c.in-Err.ensures.stop c.say_why.ensures.said
    c.say_why.ensures.memory
