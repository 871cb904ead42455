use Rattle.std.proofs.lemmas.Bool.{false≢true}
use Rattle.ember_leaf.proofs.regions.needs_no_inner_part.Goals as goal

pub returns-in-Earlier : goal.returns-in-Earlier
returns-in-Earlier g c = λ e. (c.in-Earlier.is, c.is_uncut.ensures e)

pub returns-in_default : goal.returns-in_default
returns-in_default g c = λ e. absurd (false≢true e)
