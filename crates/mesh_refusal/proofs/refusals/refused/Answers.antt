use Rattle.std.proofs.Common.{refl, inl}
use Rattle.mesh_refusal.proofs.refusals.refused.Goals as goal

pub returns-in-Ok : goal.returns-in-Ok
returns-in-Ok c =
    inl (c.in-Ok.reason, refl, record { file = c.file_at-file.result; found = c.file_at-file.ensures; is = c.in-Ok.ensures })
