use Rattle.std.proofs.Common.{refl, inl}
use Rattle.mesh_refusal.proofs.refusals.unplaceable.Goals as goal

pub returns-in-Ok : goal.returns-in-Ok
returns-in-Ok c = inl (c.in-Ok.why, refl, c.in-Ok.ensures)
