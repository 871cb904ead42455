use Rattle.mesh_tolerance.proofs.FileMeaning.{floats_stay_near, decimals_stay_near}
use Rattle.mesh_tolerance.proofs.law.rounded_triangles_stay_near.Goals as goal

pub returns-clause-floats : goal.returns-clause-floats
returns-clause-floats c = λ g ss x mesh is ws written. floats_stay_near g ss x mesh is ws written

pub returns-clause-decimals : goal.returns-clause-decimals
returns-clause-decimals c = λ g ss x mesh is places. decimals_stay_near g ss x mesh is places
