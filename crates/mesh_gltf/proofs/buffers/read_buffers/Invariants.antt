use Rattle.std.proofs.Common.{◌≡◌, length, map}
use Rattle.std.specs.Option.{option_map}
use Rattle.serde_json.specs.View.{items_view}
use Rattle.mesh_gltf.specs.Buffers.{bytes_seen, buffers_from}
use Rattle.mesh_gltf.proofs.Parts.{behind_ok}
use Rattle.mesh_gltf.proofs.buffers.read_buffers.Given as goal

abbrev pub invariant-loop-value : goal.invariant-loop-value
invariant-loop-value l =
    buffers_from (option_map (λ c. c.now) l.chunk) 0 (items_view l.values)
    ≡ behind_ok (map bytes_seen l.buffers.items)
    (buffers_from (option_map (λ c. c.now) l.chunk) (length l.buffers.items) (items_view l.rest))

abbrev pub decreases-loop-value : goal.decreases-loop-value
decreases-loop-value l = length l.rest
