use Rattle.mesh_effect.specs.Rounding.Squares.{triangle_square}
use Rattle.mesh_effect.proofs.Maxima.{none_is_greater}
use Rattle.mesh_effect.proofs.NotBelow.{ticks_not_below, move_not_below}
use Rattle.mesh_effect.proofs.rounding.laws.moves_are_not_below_the_true_ones.Goals as goal

pub returns-clause-ticks : goal.returns-clause-ticks
returns-clause-ticks c = ticks_not_below

pub returns-clause-greatest : goal.returns-clause-greatest
returns-clause-greatest c = λ squares ts. none_is_greater (triangle_square squares) ts

pub returns-clause-shown : goal.returns-clause-shown
returns-clause-shown c = move_not_below
