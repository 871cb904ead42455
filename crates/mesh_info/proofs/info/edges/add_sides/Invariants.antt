use Rattle.std.proofs.Common.{◌≡◌, length}
use Rattle.mesh_info.proofs.EdgeUses.{AreCounted}
use Rattle.mesh_info.proofs.info.edges.add_sides.Given as goal

abbrev pub invariant-loop-side : goal.invariant-loop-side
invariant-loop-side l = record {
  many : length l.uses ≡ length l.fn.edges.keys;
  counted : AreCounted l.fn.edges.keys l.sides l.side-index l.uses;
}
