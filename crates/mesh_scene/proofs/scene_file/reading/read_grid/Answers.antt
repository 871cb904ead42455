use Rattle.std.proofs.Common.{subst}
use Rattle.serde_json.specs.Data.{Data}
use Rattle.mesh_scene.specs.SceneFile.Scenes.{IsGridIn}
use Rattle.mesh_scene.proofs.Parts.{one_value}
use Rattle.mesh_scene.proofs.scene_file.reading.read_grid.Goals as goal

pub returns-in-Ok-clause-fault : goal.returns-in-Ok-clause-fault
returns-in-Ok-clause-fault c g is =
    let same = one_value _ _ _ is.json c.in-Ok.ensures.ok.1 in
    c.in-None.ensures.none g (subst (λ (v : Data). IsGridIn v g) same is.grid)
