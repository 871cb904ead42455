use Rattle.std.proofs.Common.{◌≡◌, take}
use Rattle.std.specs.Prelude.{count_by}
use Rattle.mesh_info.specs.Info.Edges.{is_crowded}
use Rattle.mesh_info.proofs.info.edges.shared_in.Given as goal

abbrev pub invariant-loop-edge : goal.invariant-loop-edge
invariant-loop-edge l =
    l.shared ≡ count_by is_crowded (take l.edge-index l.uses)
