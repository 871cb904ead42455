use Rattle.std.proofs.Common.{◌≡◌, ◌++◌, take}
use Rattle.mesh_scene.specs.SceneFile.Texts.{files_of, files_text}
use Rattle.mesh_scene.proofs.scene_file.writing.put_files.Given as goal

abbrev pub invariant-loop-index : goal.invariant-loop-index
invariant-loop-index l = l.text.items ≡ l.fn.text.items ++ files_text (take l.index (files_of l.names l.counts l.moves))
