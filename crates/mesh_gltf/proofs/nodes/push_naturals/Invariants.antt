use Rattle.std.proofs.Common.{◌≡◌, length}
use Rattle.serde_json.specs.View.{items_view}
use Rattle.mesh_gltf.specs.Members.{naturals}
use Rattle.mesh_gltf.proofs.Parts.{behind}
use Rattle.mesh_gltf.proofs.nodes.push_naturals.Given as goal

abbrev pub invariant-loop-value : goal.invariant-loop-value
invariant-loop-value l =
    behind l.fn.numbers.items (naturals (items_view l.values)) ≡ behind l.numbers.items (naturals (items_view l.rest))

abbrev pub decreases-loop-value : goal.decreases-loop-value
decreases-loop-value l = length l.rest
