use Rattle.std.proofs.Common.{SFits, rules}
use mir.Syntax.{w32}
use Rattle.mesh_sources.proofs.Floors.{floor_is_exact, floor_in_64}
use Rattle.mesh_sources.proofs.boxes.floor_along.Goals as goal

pub returns : goal.returns
returns c z =
    let at = c.along.result in let f : SFits w32 at.floor = search rules in
    floor_is_exact at c.along.ensures.weight c.along.ensures.value _ z (floor_in_64 f)
