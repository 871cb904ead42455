use Rattle.std.proofs.Common.{◌≡◌, ◌+◌, ◌≤◌, length, drop}
use Rattle.mesh_scene.specs.Scene.LooseEdges.{number_excess}
use Rattle.mesh_scene.proofs.scene.edges.excess.Given as goal

abbrev pub invariant-loop-number : goal.invariant-loop-number
invariant-loop-number l = record {
  next : l.next ≤ length l.back;
  found : l.found ≤ l.number-index;
  rest : l.found + number_excess (drop l.number-index l.there) (drop l.next l.back) ≡ number_excess l.there l.back;
}
