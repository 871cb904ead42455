use Rattle.std.proofs.Common.{inl, refl}
use Rattle.ember_arrays.proofs.lines.refused.Goals as goal

pub returns-in-Ok : goal.returns-in-Ok
returns-in-Ok c = inl (c.in-Ok.reason, refl, c.in-Ok.ensures)
