use Rattle.std.proofs.Common.{◌≡◌, ◌≤◌, ◌*◌, ◌^◌, take}
use Rattle.std.specs.Prelude.{sum_by}
use Rattle.mesh_info.specs.Info.Edges.{surplus}
use Rattle.mesh_info.proofs.info.edges.loose_in.Given as goal

abbrev pub invariant-loop-edge : goal.invariant-loop-edge
invariant-loop-edge l =
    record {
      sum : l.loose ≡ sum_by surplus (take l.edge-index l.uses);
      small : l.loose ≤ l.edge-index * 2 ^ 64;
    }
