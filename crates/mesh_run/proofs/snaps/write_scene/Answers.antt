use Rattle.std.proofs.Common.{inl, ℕ, List, length, subst, sym, ap, ◌∙◌}
use Rattle.mesh_outside.specs.Target.Several.{PutsEach, names_and_bytes}
use Rattle.mesh_outside.specs.declared.target.several.NamedFile.{NamedFile}
use Rattle.ember_io.specs.Calls.{shelf_call}
use Rattle.mesh_run.specs.Calls.{target_call}
use Rattle.mesh_run.specs.Causes.{IsSnapStop}
use Rattle.mesh_run.specs.Serves.{AreSnapFilesFor, IsSnapUnmet}
use Rattle.mesh_run.specs.Writes.{AreSceneFiles}
use Rattle.mesh_run.proofs.OutputParts.{placed_counts_are_named, placed_moves_are_named}
use Rattle.mesh_run.proofs.Shown.{placed_step_is_shown}
use Rattle.mesh_run.proofs.SnapStops.{stop_is_no_write, stop_tells_memory}
use Rattle.mesh_run.specs.Unmet.{IsWriteStop}
use Rattle.mesh_run.proofs.KeptNames.{names_hold_the_same}
use Rattle.mesh_run.proofs.UnmetRequests.{cause_is_unmet, memory_given, stop_is_unmet}
use Rattle.mesh_run.proofs.snaps.write_scene.Goals as goal

pub placed_report-requires : goal.placed_report-requires
placed_report-requires g c = placed_step_is_shown c.args.request.now (g.S.Shelf.contents c.args.shelf.now) c.in-Ok.placed c.in-Ok.ensures.placed

pub scene_files-requires-clause-step : goal.scene_files-requires-clause-step
scene_files-requires-clause-step g c = placed_step_is_shown c.args.request.now (g.S.Shelf.contents c.args.shelf.now) c.in-Ok.placed c.in-Ok.ensures.placed

pub scene_files-requires-clause-counts : goal.scene_files-requires-clause-counts
scene_files-requires-clause-counts g c =
    placed_counts_are_named c.args.request.now (g.S.Shelf.contents c.args.shelf.now) c.in-Ok.placed c.in-Ok.ensures.placed ∙ ap length (sym c.items.ensures)

pub scene_files-requires-clause-moves : goal.scene_files-requires-clause-moves
scene_files-requires-clause-moves g c =
    placed_moves_are_named c.args.request.now (g.S.Shelf.contents c.args.shelf.now) c.in-Ok.placed c.in-Ok.ensures.placed ∙ ap length (sym c.items.ensures)

pub returns-in-Err-clause-stop : goal.returns-in-Err-clause-stop
returns-in-Err-clause-stop g c =
    let shelf = shelf_call g.S.Shelf.contents g.S.Shelf.faults g.S.Shelf.fault_at g.S.Shelf.fault_kind c.args.shelf.now c.placed_for.new.shelf in
    let target = target_call g.T.Target.held g.T.Target.begun g.T.Target.faults c.args.target.now c.args.target.now in
    let request = c.args.request.now in
    let stop = c.in-Err.ensures.stop in
    cause_is_unmet (IsSnapStop request shelf) (AreSnapFilesFor request shelf.told) target c.in-Err.status
    (stop_is_no_write request shelf) (names_hold_the_same (g.T.Target.held c.args.target.now)) stop
    (stop_tells_memory request shelf c.in-Err.status stop)

pub returns-in_err-report-clause-stop : goal.returns-in_err-report-clause-stop
returns-in_err-report-clause-stop g c =
    let shelf = shelf_call g.S.Shelf.contents g.S.Shelf.faults g.S.Shelf.fault_at g.S.Shelf.fault_kind c.args.shelf.now c.placed_for.new.shelf in
    let target = target_call g.T.Target.held g.T.Target.begun g.T.Target.faults c.args.target.now c.args.target.now in
    memory_given (IsSnapUnmet c.args.request.now shelf target) c.from_residual.result c.from_residual.ensures.1
    (inl (names_hold_the_same (g.T.Target.held c.args.target.now)))

pub returns-in_err-files-clause-stop : goal.returns-in_err-files-clause-stop
returns-in_err-files-clause-stop g c =
    let shelf = shelf_call g.S.Shelf.contents g.S.Shelf.faults g.S.Shelf.fault_at g.S.Shelf.fault_kind c.args.shelf.now c.placed_for.new.shelf in
    let target = target_call g.T.Target.held g.T.Target.begun g.T.Target.faults c.args.target.now c.args.target.now in
    memory_given (IsSnapUnmet c.args.request.now shelf target) c.from_residual-in_err-files.result
    c.from_residual-in_err-files.ensures.1 (inl (names_hold_the_same (g.T.Target.held c.args.target.now)))

pub returns-in-Ok-write_files-clause-written : goal.returns-in-Ok-write_files-clause-written
returns-in-Ok-write_files-clause-written g c =
    let held = g.T.Target.held c.args.target.now in
    let after = g.T.Target.held c.write_files.new.target in
    record {
      placed = c.in-Ok.placed;
      is_placed = c.in-Ok.ensures.placed;
      files = names_and_bytes c.in_ok-files.files.items;
      are_files = subst (λ (names : List (List ℕ)). AreSceneFiles c.args.request.now.folder names c.in-Ok.placed
          (names_and_bytes c.in_ok-files.files.items)) c.items.ensures c.in_ok-files.ensures;
      written = subst (λ (files : List NamedFile). PutsEach (names_and_bytes files) held after) c.deref.ensures.value c.in-Ok-write_files.ensures.written;
      text_is = c.in_ok-report.ensures;
    }

pub returns-clause-stop : goal.returns-clause-stop
returns-clause-stop g c =
    let shelf = shelf_call g.S.Shelf.contents g.S.Shelf.faults g.S.Shelf.fault_at g.S.Shelf.fault_kind c.args.shelf.now c.placed_for.new.shelf in
    let target = target_call g.T.Target.held g.T.Target.begun g.T.Target.faults c.args.target.now c.write_files.new.target in
    let request = c.args.request.now in
    let status = c.in-Err-write_files.status in
    stop_is_unmet (IsSnapStop request shelf) (AreSnapFilesFor request shelf.told) target (names_and_bytes c.in_ok-files.files.items)
    (record {
      placed = c.in-Ok.placed;
      is_placed = c.in-Ok.ensures.placed;
      are_files =
          subst (λ (names : List (List ℕ)). AreSceneFiles c.args.request.now.folder names c.in-Ok.placed
          (names_and_bytes c.in_ok-files.files.items)) c.items.ensures c.in_ok-files.ensures;
    }) status
    (subst (λ (files : List NamedFile). IsWriteStop (names_and_bytes files) target status) c.deref.ensures.value c.in-Err-write_files.ensures.stop)
