use Rattle.std.proofs.Common.{◌≡◌, map, take}
use Rattle.ember_model.specs.Meshes.{reversed, edges_in}
use Rattle.ember_balance.specs.Numbers.{edge_number}
use Rattle.mesh_scene.proofs.scene.edges.reverse_numbers.Given as goal

abbrev pub invariant-loop-t : goal.invariant-loop-t
invariant-loop-t l = l.numbers.items ≡ map edge_number (map reversed (edges_in (take l.t-index l.tris)))
