use Rattle.std.proofs.Common.{◌≡◌, ℕ, List, sym, subst}
use Rattle.std.proofs.lemmas.Result.{IfErr-weaker, IfOk-weaker}
use Rattle.std.specs.declared.option.Option.{Option}
use Rattle.std.specs.Prelude.{MatchOption}
use Rattle.mesh_scene.specs.SceneFile.Scenes.{IsSceneOf}
use Rattle.mesh_grid.specs.Snap.Steps.{IsStep}
use Rattle.ember_io.specs.Calls.{shelf_call}
use Rattle.mesh_run.specs.Exports.{IsExportStop, IsGridGiven, IsNoGrid, IsSceneFile, unit_grid}
use Rattle.mesh_run.proofs.ExportStops.{grid_stop, scene_stop}
use Rattle.mesh_run.proofs.exports.grid_given.Goals as goal

pub returns-in-Ok-clause-step : goal.returns-in-Ok-clause-step
returns-in-Ok-clause-step g c =
    IfOk-weaker c.grid_in.result _ (λ grid. IsStep grid.step) (λ grid h. h.grid.step.is_text.step) c.grid_in.ensures.grid

pub returns-in-Ok-clause-grid : goal.returns-in-Ok-clause-grid
returns-in-Ok-clause-grid g c =
    let told = g.S.Shelf.contents c.args.shelf.now in
    IfOk-weaker c.grid_in.result _ (IsGridGiven c.args.request.now told)
    (λ grid h. subst (λ (scene : Option (List ℕ)). MatchOption scene (grid ≡ unit_grid) (λ name. IsSceneFile told name grid)) (sym c.in-Some.is)
    (record {
      bytes = c.in-Ok.bytes.items;
      are_bytes = c.in-Ok.ensures.bytes;
      is_scene =
          subst (λ (bytes : List ℕ). IsSceneOf bytes grid) c.deref.ensures.value h;
    }))
    c.grid_in.ensures.grid

pub returns-in-Ok-clause-stop : goal.returns-in-Ok-clause-stop
returns-in-Ok-clause-stop g c =
    let shelf = shelf_call g.S.Shelf.contents g.S.Shelf.faults g.S.Shelf.fault_at g.S.Shelf.fault_kind c.args.shelf.now c.bytes_in.new.shelf in
    let request = c.args.request.now in
    IfErr-weaker c.grid_in.result _ (IsExportStop request shelf)
    (λ status h. grid_stop request shelf c.in-Some.name c.in-Ok.bytes.items status c.in-Some.is c.in-Ok.ensures.bytes
    (subst (λ (bytes : List ℕ). IsNoGrid bytes status) c.deref.ensures.value h))
    c.grid_in.ensures.cause

pub returns-in-Err-clause-stop : goal.returns-in-Err-clause-stop
returns-in-Err-clause-stop g c =
    let shelf = shelf_call g.S.Shelf.contents g.S.Shelf.faults g.S.Shelf.fault_at g.S.Shelf.fault_kind c.args.shelf.now c.bytes_in.new.shelf in
    scene_stop c.args.request.now shelf c.in-Some.name c.in-Err.status c.in-Some.is c.in-Err.ensures.cause
