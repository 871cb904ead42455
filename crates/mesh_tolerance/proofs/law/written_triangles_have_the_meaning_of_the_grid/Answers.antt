use Rattle.mesh_tolerance.proofs.FileMeaning.{floats_mean_outside_rounding, decimals_mean_outside_rounding}
use Rattle.mesh_tolerance.proofs.law.written_triangles_have_the_meaning_of_the_grid.Goals as goal

pub returns-clause-floats : goal.returns-clause-floats
returns-clause-floats c = λ g ss x mesh is ws written. floats_mean_outside_rounding g ss x mesh is ws written

pub returns-clause-decimals : goal.returns-clause-decimals
returns-clause-decimals c = λ g ss x mesh is places. decimals_mean_outside_rounding g ss x mesh is places
