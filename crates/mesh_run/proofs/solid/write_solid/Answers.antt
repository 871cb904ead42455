use Rattle.std.proofs.Common.{inl, List, subst}
use Rattle.mesh_outside.specs.Target.Several.{PutsEach, names_and_bytes}
use Rattle.mesh_outside.specs.declared.target.several.NamedFile.{NamedFile}
use Rattle.ember_io.specs.Calls.{shelf_call}
use Rattle.mesh_run.specs.Calls.{target_call}
use Rattle.mesh_run.specs.Causes.{IsStop}
use Rattle.mesh_run.specs.Serves.{AreFilesFor, IsSolidUnmet}
use Rattle.mesh_run.specs.Unmet.{IsWriteStop}
use Rattle.mesh_run.proofs.KeptNames.{names_hold_the_same}
use Rattle.mesh_run.proofs.OutputParts.{kept_is_there, output_counts_are_named, output_moves_are_named, shown_is_there}
use Rattle.mesh_run.proofs.Shown.{output_step_is_shown}
use Rattle.mesh_run.proofs.Stops.{stop_tells_memory}
use Rattle.mesh_run.proofs.UnmetRequests.{cause_is_unmet, memory_given, stop_is_unmet}
use Rattle.mesh_run.proofs.solid.write_solid.Goals as goal

pub solid_report-requires : goal.solid_report-requires
solid_report-requires g c = output_step_is_shown c.args.request.now (g.S.Shelf.contents c.args.shelf.now) c.in-Ok.output c.in-Ok.ensures.output

pub solid_files-requires-clause-step : goal.solid_files-requires-clause-step
solid_files-requires-clause-step g c = c.in-Ok.ensures.output.of_files.is_output.are_placed.on_grid.step

pub solid_files-requires-clause-counts : goal.solid_files-requires-clause-counts
solid_files-requires-clause-counts g c = output_counts_are_named c.args.request.now (g.S.Shelf.contents c.args.shelf.now) c.in-Ok.output c.in-Ok.ensures.output

pub solid_files-requires-clause-moves : goal.solid_files-requires-clause-moves
solid_files-requires-clause-moves g c = output_moves_are_named c.args.request.now (g.S.Shelf.contents c.args.shelf.now) c.in-Ok.output c.in-Ok.ensures.output

pub solid_files-requires-clause-kept : goal.solid_files-requires-clause-kept
solid_files-requires-clause-kept g c = kept_is_there c.args.request.now (g.S.Shelf.contents c.args.shelf.now) c.in-Ok.output c.in-Ok.ensures.output

pub solid_files-requires-clause-shown : goal.solid_files-requires-clause-shown
solid_files-requires-clause-shown g c = shown_is_there c.args.request.now (g.S.Shelf.contents c.args.shelf.now) c.in-Ok.output c.in-Ok.ensures.output

pub returns-in-Err-clause-stop : goal.returns-in-Err-clause-stop
returns-in-Err-clause-stop g c =
    let shelf = shelf_call g.S.Shelf.contents g.S.Shelf.faults g.S.Shelf.fault_at g.S.Shelf.fault_kind c.args.shelf.now c.solid_output.new.shelf in
    let target = target_call g.T.Target.held g.T.Target.begun g.T.Target.faults c.args.target.now c.args.target.now in
    let request = c.args.request.now in
    let stop = c.in-Err.ensures.stop in
    cause_is_unmet (IsStop request shelf) (AreFilesFor request shelf.told) target c.in-Err.status (λ name h. h)
    (names_hold_the_same (g.T.Target.held c.args.target.now)) stop
    (stop_tells_memory request shelf c.in-Err.status stop)

pub returns-in_err-report-clause-stop : goal.returns-in_err-report-clause-stop
returns-in_err-report-clause-stop g c =
    let shelf = shelf_call g.S.Shelf.contents g.S.Shelf.faults g.S.Shelf.fault_at g.S.Shelf.fault_kind c.args.shelf.now c.solid_output.new.shelf in
    let target = target_call g.T.Target.held g.T.Target.begun g.T.Target.faults c.args.target.now c.args.target.now in
    memory_given (IsSolidUnmet c.args.request.now shelf target) c.from_residual.result c.from_residual.ensures.1
    (inl (names_hold_the_same (g.T.Target.held c.args.target.now)))

pub returns-in_err-made-clause-stop : goal.returns-in_err-made-clause-stop
returns-in_err-made-clause-stop g c =
    let shelf = shelf_call g.S.Shelf.contents g.S.Shelf.faults g.S.Shelf.fault_at g.S.Shelf.fault_kind c.args.shelf.now c.solid_output.new.shelf in
    let target = target_call g.T.Target.held g.T.Target.begun g.T.Target.faults c.args.target.now c.args.target.now in
    memory_given (IsSolidUnmet c.args.request.now shelf target) c.from_residual-in_err-made.result
    c.from_residual-in_err-made.ensures.1 (inl (names_hold_the_same (g.T.Target.held c.args.target.now)))

pub returns-in-Ok-write_files-clause-written : goal.returns-in-Ok-write_files-clause-written
returns-in-Ok-write_files-clause-written g c =
    let held = g.T.Target.held c.args.target.now in
    let after = g.T.Target.held c.write_files.new.target in
    record {
      output = c.in-Ok.output;
      is_output = c.in-Ok.ensures.output;
      files = names_and_bytes c.in_ok-made.made.files.items;
      are_files = c.in_ok-made.ensures.files;
      written = subst (λ (files : List NamedFile). PutsEach (names_and_bytes files) held after) c.deref.ensures.value c.in-Ok-write_files.ensures.written;
      sent_is = c.in_ok-made.ensures.sent;
      report_is = c.in_ok-report.ensures;
    }

pub returns-in-Err-write_files-clause-stop : goal.returns-in-Err-write_files-clause-stop
returns-in-Err-write_files-clause-stop g c =
    let shelf = shelf_call g.S.Shelf.contents g.S.Shelf.faults g.S.Shelf.fault_at g.S.Shelf.fault_kind c.args.shelf.now c.solid_output.new.shelf in
    let target = target_call g.T.Target.held g.T.Target.begun g.T.Target.faults c.args.target.now c.write_files.new.target in
    let request = c.args.request.now in
    let status = c.in-Err-write_files.status in
    stop_is_unmet (IsStop request shelf) (AreFilesFor request shelf.told) target (names_and_bytes c.in_ok-made.made.files.items)
    (record { output = c.in-Ok.output; is_output = c.in-Ok.ensures.output; are_files = c.in_ok-made.ensures.files }) status
    (subst (λ (files : List NamedFile). IsWriteStop (names_and_bytes files) target status) c.deref.ensures.value c.in-Err-write_files.ensures.stop)
