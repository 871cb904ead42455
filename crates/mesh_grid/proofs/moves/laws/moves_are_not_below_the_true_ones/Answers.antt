use Rattle.mesh_grid.proofs.AxisMoves.{ticks_not_below}
use Rattle.mesh_grid.proofs.GreatestSquares.{none_is_greater}
use Rattle.mesh_grid.proofs.Lengths.{length_not_below}
use Rattle.mesh_grid.proofs.moves.laws.moves_are_not_below_the_true_ones.Goals as goal

pub returns-clause-ticks : goal.returns-clause-ticks
returns-clause-ticks c = ticks_not_below

pub returns-clause-greatest : goal.returns-clause-greatest
returns-clause-greatest c = none_is_greater

pub returns-clause-shown : goal.returns-clause-shown
returns-clause-shown c = length_not_below
