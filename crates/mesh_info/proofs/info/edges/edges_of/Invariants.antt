use Rattle.std.proofs.Common.{◌≡◌, drop, map}
use Rattle.std.specs.Prelude.{fold}
use Rattle.mesh_info.specs.declared.info.edges.Side.{Side}
use Rattle.mesh_info.specs.Info.Edges.{with_edge, edges_of}
use Rattle.mesh_info.proofs.info.edges.edges_of.Given as goal

abbrev pub invariant-loop-side : goal.invariant-loop-side
invariant-loop-side l =
    fold with_edge l.edges.keys (map (λ (s : Side). s.edge) (drop l.side-index l.sides)) ≡ edges_of l.sides
