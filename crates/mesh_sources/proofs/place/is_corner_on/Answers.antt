use Rattle.std.proofs.Common.{SFits, to_z-of_z}
use mir.Syntax.{w64}
use Rattle.mesh_sources.proofs.place.is_corner_on.Goals as goal

pub returns : goal.returns
returns c =
    let v : SFits w64 c.value_at.result = record { sfits = c.value_at.type_inv } in
    rw (to_z-of_z v, c.value_at.ensures) at c.is_zero.ensures
