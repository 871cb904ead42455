use Rattle.mesh_tolerance.proofs.MeanPoints.{points_move_within}
use Rattle.mesh_tolerance.proofs.law.moved_surfaces_stay_near.Goals as goal

pub returns : goal.returns
returns c = λ size unit from to ts moved. points_move_within size unit from to ts moved.moves
