use Rattle.std.proofs.Common.{subst}
use Rattle.serde_json.specs.Data.{Data}
use Rattle.mesh_scene.specs.SceneFile.Scenes.{IsGridIn}
use Rattle.mesh_scene.proofs.Parts.{one_value, one_grid}
use Rattle.mesh_scene.proofs.scene_file.laws.scenes_have_one_grid.Goals as goal

pub returns : goal.returns
returns c bytes g h is it =
    let same = one_value bytes it.value is.value it.json is.json in
    one_grid is.value g h is.grid (subst (λ (v : Data). IsGridIn v h) same it.grid)
