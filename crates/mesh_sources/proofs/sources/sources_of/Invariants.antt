use Rattle.std.proofs.Common.{take}
use Rattle.std.specs.List.{AllZip}
use Rattle.mesh_sources.specs.Sources.{IsTriangleSource}
use Rattle.mesh_sources.proofs.sources.sources_of.Given as goal

abbrev pub invariant-loop-t : goal.invariant-loop-t
invariant-loop-t l =
    AllZip (IsTriangleSource l.scene l.points l.planes) (take l.t-index l.triangles) l.sources.items
