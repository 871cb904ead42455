use Rattle.std.proofs.Common.{◌≡◌, map, take}
use Rattle.ember_model.specs.Meshes.{edges_in}
use Rattle.ember_balance.specs.Numbers.{edge_number}
use Rattle.mesh_scene.proofs.scene.edges.edge_numbers.Given as goal

abbrev pub invariant-loop-t : goal.invariant-loop-t
invariant-loop-t l = l.numbers.items ≡ map edge_number (edges_in (take l.t-index l.tris))
