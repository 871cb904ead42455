use Rattle.std.proofs.Common.{inl, List, subst}
use Rattle.mesh_outside.specs.Target.Several.{PutsEach, names_and_bytes}
use Rattle.mesh_outside.specs.declared.target.several.NamedFile.{NamedFile}
use Rattle.ember_io.specs.Calls.{shelf_call}
use Rattle.mesh_run.specs.Calls.{target_call}
use Rattle.mesh_run.specs.Exports.{IsExportStop}
use Rattle.mesh_run.specs.Serves.{AreExportFilesFor, IsExportUnmet}
use Rattle.mesh_run.proofs.ExportStops.{stop_is_no_write, stop_tells_memory}
use Rattle.mesh_run.proofs.OutputParts.{export_shown_is_there}
use Rattle.mesh_run.specs.Unmet.{IsWriteStop}
use Rattle.mesh_run.proofs.KeptNames.{names_hold_the_same}
use Rattle.mesh_run.proofs.UnmetRequests.{cause_is_unmet, memory_given, stop_is_unmet}
use Rattle.mesh_run.proofs.exports.write_export.Goals as goal

pub written_files-requires : goal.written_files-requires
written_files-requires g c = export_shown_is_there c.args.request.now (g.S.Shelf.contents c.args.shelf.now) c.in-Ok.mesh c.in-Ok.ensures.mesh

pub returns-in-Err-clause-stop : goal.returns-in-Err-clause-stop
returns-in-Err-clause-stop g c =
    let shelf = shelf_call g.S.Shelf.contents g.S.Shelf.faults g.S.Shelf.fault_at g.S.Shelf.fault_kind c.args.shelf.now c.mesh_for.new.shelf in
    let target = target_call g.T.Target.held g.T.Target.begun g.T.Target.faults c.args.target.now c.args.target.now in
    let request = c.args.request.now in
    let stop = c.in-Err.ensures.stop in
    cause_is_unmet (IsExportStop request shelf) (AreExportFilesFor request shelf.told) target c.in-Err.status
    (stop_is_no_write request shelf) (names_hold_the_same (g.T.Target.held c.args.target.now)) stop
    (stop_tells_memory request shelf c.in-Err.status stop)

pub returns-in_err-report-clause-stop : goal.returns-in_err-report-clause-stop
returns-in_err-report-clause-stop g c =
    let shelf = shelf_call g.S.Shelf.contents g.S.Shelf.faults g.S.Shelf.fault_at g.S.Shelf.fault_kind c.args.shelf.now c.mesh_for.new.shelf in
    let target = target_call g.T.Target.held g.T.Target.begun g.T.Target.faults c.args.target.now c.args.target.now in
    memory_given (IsExportUnmet c.args.request.now shelf target) c.from_residual.result c.from_residual.ensures.1
    (inl (names_hold_the_same (g.T.Target.held c.args.target.now)))

pub returns-in_err-made-clause-stop : goal.returns-in_err-made-clause-stop
returns-in_err-made-clause-stop g c =
    let shelf = shelf_call g.S.Shelf.contents g.S.Shelf.faults g.S.Shelf.fault_at g.S.Shelf.fault_kind c.args.shelf.now c.mesh_for.new.shelf in
    let target = target_call g.T.Target.held g.T.Target.begun g.T.Target.faults c.args.target.now c.args.target.now in
    memory_given (IsExportUnmet c.args.request.now shelf target) c.from_residual-in_err-made.result
    c.from_residual-in_err-made.ensures.1 (inl (names_hold_the_same (g.T.Target.held c.args.target.now)))

pub returns-in-Ok-write_files-clause-written : goal.returns-in-Ok-write_files-clause-written
returns-in-Ok-write_files-clause-written g c =
    let held = g.T.Target.held c.args.target.now in
    let after = g.T.Target.held c.write_files.new.target in
    record {
      mesh = c.in-Ok.mesh;
      is_export = c.in-Ok.ensures.mesh;
      files = names_and_bytes c.in_ok-made.made.files.items;
      are_files = c.in_ok-made.ensures.files;
      written = subst (λ (files : List NamedFile). PutsEach (names_and_bytes files) held after) c.deref.ensures.value c.in-Ok-write_files.ensures.written;
      sent_is = c.in_ok-made.ensures.sent;
      report_is = c.in_ok-report.ensures;
    }

pub returns-in-Err-write_files-clause-stop : goal.returns-in-Err-write_files-clause-stop
returns-in-Err-write_files-clause-stop g c =
    let shelf = shelf_call g.S.Shelf.contents g.S.Shelf.faults g.S.Shelf.fault_at g.S.Shelf.fault_kind c.args.shelf.now c.mesh_for.new.shelf in
    let target = target_call g.T.Target.held g.T.Target.begun g.T.Target.faults c.args.target.now c.write_files.new.target in
    let request = c.args.request.now in
    let status = c.in-Err-write_files.status in
    stop_is_unmet (IsExportStop request shelf) (AreExportFilesFor request shelf.told) target (names_and_bytes c.in_ok-made.made.files.items)
    (record { mesh = c.in-Ok.mesh; is_export = c.in-Ok.ensures.mesh; are_files = c.in_ok-made.ensures.files }) status
    (subst (λ (files : List NamedFile). IsWriteStop (names_and_bytes files) target status) c.deref.ensures.value c.in-Err-write_files.ensures.stop)
