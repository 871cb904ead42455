use Rattle.std.proofs.Common.{refl, ◌∙◌}
use Rattle.mesh_grid.specs.Moves.Shown.{greatest_move}
use Rattle.mesh_grid.proofs.moves.greatest.greatest_move.Goals as goal

pub returns : goal.returns
unfolding greatest_move
returns c = c.length_of.ensures ∙ rw (c.greatest_of_marked-square.ensures, c.fineness_of-fineness.ensures.value) refl
