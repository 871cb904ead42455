use Rattle.std.proofs.Common.{◌≡◌, length}
use Rattle.serde_json.specs.View.{items_view}
use Rattle.mesh_gltf.specs.ReadGltf.{has_text}
use Rattle.mesh_gltf.proofs.reading.has_text.Given as goal

abbrev pub invariant-loop-value : goal.invariant-loop-value
invariant-loop-value l = has_text l.wanted (items_view l.values) ≡ has_text l.wanted (items_view l.rest)

abbrev pub decreases-loop-value : goal.decreases-loop-value
decreases-loop-value l = length l.rest
