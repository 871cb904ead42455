use Rattle.std.proofs.Common.{◌≡◌, length}
use Rattle.serde_json.specs.View.{items_view}
use Rattle.mesh_gltf.specs.Nodes.{are_numbers}
use Rattle.mesh_gltf.proofs.nodes.are_numbers.Given as goal

abbrev pub invariant-loop-number : goal.invariant-loop-number
invariant-loop-number l = are_numbers l.numbers (items_view l.values) ≡ are_numbers l.wanted (items_view l.rest)

abbrev pub decreases-loop-number : goal.decreases-loop-number
decreases-loop-number l = length l.wanted
