use Rattle.mesh_scene.specs.SceneFile.Texts.{file_text}
use Rattle.mesh_number.proofs.Appended.{after5, on_ok_if}
use Rattle.mesh_scene.proofs.scene_file.writing.put_file.Goals as goal

pub returns : goal.returns
unfolding file_text
returns c =
    on_ok_if _ _ c.extend_from_slice-2.result c.extend_from_slice-2.ensures.items
    (after5 _ _ _ _ _ _ _ _ _ _ c.in_ok-put_name.ensures c.in_ok-put_counts.ensures c.in_ok-extend_from_slice.ensures.items c.in_ok-put_move.ensures)
