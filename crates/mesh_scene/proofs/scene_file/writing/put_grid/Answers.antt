use Rattle.mesh_scene.specs.SceneFile.Texts.{grid_text}
use Rattle.mesh_number.proofs.Appended.{after5, on_ok_if}
use Rattle.mesh_scene.proofs.scene_file.writing.put_grid.Goals as goal

pub returns : goal.returns
unfolding grid_text
returns c =
    on_ok_if _ _ c.extend_from_slice-3.result c.extend_from_slice-3.ensures.items
    (after5 _ _ _ _ _ _ _ _ _ _ c.in_ok-extend_from_slice.ensures.items c.in_ok-put_fraction.ensures
    c.in_ok-extend_from_slice-2.ensures.items c.in_ok-put_offset.ensures)
