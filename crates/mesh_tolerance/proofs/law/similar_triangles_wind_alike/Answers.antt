use Rattle.mesh_tolerance.proofs.SimilarTriangles.{winds_as_placed, clear_as_placed}
use Rattle.mesh_tolerance.proofs.law.similar_triangles_wind_alike.Goals as goal

pub returns-clause-alike : goal.returns-clause-alike
returns-clause-alike c = λ ts weights n m o pn pm. winds_as_placed n m o pn pm ts weights

pub returns-clause-clear : goal.returns-clause-clear
returns-clause-clear c = λ ts n m o pn pm. clear_as_placed n m o pn pm ts
