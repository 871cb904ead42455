use Rattle.mesh_grid.specs.declared.grid.grid.Grid.{Grid}
use Rattle.serde_json.specs.View.{view}
use Rattle.mesh_scene.specs.SceneFile.Scenes.{IsGridIn}
use Rattle.mesh_scene.proofs.Parts.{if_none}
use Rattle.mesh_scene.proofs.scene_file.reading.grid_of.Goals as goal

pub returns-in_err-step_of-clause-none : goal.returns-in_err-step_of-clause-none
returns-in_err-step_of-clause-none c =
    let no : (g : Grid) → IsGridIn (view c.args.value.now) g → ⊥ = λ g is. c.in_err-step_of.ensures.none g.step is.step in
    if_none _ no
