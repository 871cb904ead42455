use Rattle.ember_run.proofs.TextsOfLeaves.{lattice_text_if}
use Rattle.ember_run.proofs.voxels.text_of_voxels.Goals as goal

pub returns : goal.returns
returns g c =
    lattice_text_if _ _ _ _ _ _ c.each_cell_has_its_value.ensures c.requires.most c.in_ok-fills.ensures c.deref.ensures.value c.grid_text.ensures
