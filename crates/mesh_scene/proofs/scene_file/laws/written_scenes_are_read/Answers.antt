use Rattle.mesh_scene.proofs.SceneData.{text_is_scene}
use Rattle.mesh_scene.proofs.scene_file.laws.written_scenes_are_read.Goals as goal

pub returns : goal.returns
returns c g names counts moves text is short files = text_is_scene g names counts moves text is short files
