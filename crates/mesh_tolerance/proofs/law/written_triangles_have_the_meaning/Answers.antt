use Rattle.mesh_tolerance.proofs.FileMeaning.{floats_mean_outside_moves, decimals_mean_outside_moves}
use Rattle.mesh_tolerance.proofs.law.written_triangles_have_the_meaning.Goals as goal

pub returns-clause-floats : goal.returns-clause-floats
returns-clause-floats c = λ g ss x mesh is closed ws written. floats_mean_outside_moves g ss x mesh is ws written closed

pub returns-clause-decimals : goal.returns-clause-decimals
returns-clause-decimals c = λ g ss x mesh is closed places. decimals_mean_outside_moves g ss x mesh is places closed
