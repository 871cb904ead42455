use Rattle.std.proofs.Common.{◌+◌, arith, subst}
use Rattle.std.proofs.lemmas.Option.{get_or_from_slice_get, slice_get_within}
use Rattle.ember_balance.specs.Loose.{edge_of}
use Rattle.mesh_grid.specs.Grid.Closed.{IsSurfaceClosed}
use Rattle.mesh_grid.proofs.Positions.{closed_on_grid}
use Rattle.mesh_scene.proofs.scene.laws.closed_surfaces_are_never_open.Goals as goal

pub returns : goal.returns
returns c = λ g surfaces o step closed first. let is_closed =
    subst IsSurfaceClosed (get_or_from_slice_get surfaces o.file first.surface first.surface first.found)
    (closed o.file first.surface (slice_get_within surfaces o.file first.surface first.found)) in
    let balanced = closed_on_grid g first.surface (o.file + 1) step is_closed (edge_of o.loose) in
    let least = first.is_open.least in
    omega (arith, balanced, least.there, least.back, least.more)
