-- The bytes of a document's buffers
use Rattle.std.specs.Prelude.{ℕ, ◌+◌, List, [], ◌∷◌, nat_eq, length, drop, codes, if◌then◌else◌}
use Rattle.std.specs.Prelude.{Option, None, Some, option_and_then, Result, Ok, Err}
use Rattle.std.specs.List.{starts_with}
use Rattle.base64.specs.Engines.{standard}
use Rattle.base64.specs.GeneralPurpose.{decoded_of}
use Rattle.serde_json.specs.Data.{Data, Items, no_items, item}
use Rattle.serde_json.specs.Find.{get, as_str, as_array}
use Rattle.mesh_gltf.specs.declared.buffers.Buffer.{Buffer}
use Rattle.mesh_gltf.specs.declared.buffers.Buffer.TheVariants.{Chunk, Decoded}
use Rattle.mesh_gltf.specs.declared.fault.GltfFault.{GltfFault}
use Rattle.mesh_gltf.specs.declared.fault.GltfFault.TheVariants.{NoBuffer}

-- the bytes of a buffer that code has in hand
abbrev pub bytes_seen : Buffer → List ℕ
bytes_seen (Chunk bytes) = bytes.now
bytes_seen (Decoded bytes) = bytes.items

-- ---- data URIs
abbrev pub octets : List ℕ
octets = codes "data:application/octet-stream;base64,"

abbrev pub gltf_buffer : List ℕ
gltf_buffer = codes "data:application/gltf-buffer;base64,"

-- the base64 text of a URI: what follows either of the two media types of a buffer
abbrev pub base64_in : List ℕ → Option (List ℕ)
base64_in uri =
    if starts_with nat_eq uri octets then Some (drop (length octets) uri)
    else (if starts_with nat_eq uri gltf_buffer then Some (drop (length gltf_buffer) uri)
    else None)

-- the bytes of a URI
unfoldable pub bytes_of_uri : List ℕ → Option (List ℕ)
bytes_of_uri uri = option_and_then (decoded_of standard) (base64_in uri)

-- ---- buffers
-- the bytes of a buffer with this URI: those of the binary chunk, if it has none
abbrev pub bytes_by_uri : Option (List ℕ) → Option Data → Option (List ℕ)
bytes_by_uri chunk None = chunk
bytes_by_uri chunk (Some uri) = option_and_then bytes_of_uri (as_str uri)

abbrev pub buffer_or_fault : ℕ → Option (List ℕ) → Result (List ℕ) GltfFault
buffer_or_fault index None = Err (NoBuffer index)
buffer_or_fault index (Some bytes) = Ok bytes

-- the bytes of the buffer with this index
unfoldable pub buffer_in : Option (List ℕ) → ℕ → Data → Result (List ℕ) GltfFault
buffer_in chunk index buffer = buffer_or_fault index (bytes_by_uri chunk (get (codes "uri") buffer))

abbrev pub before : Result (List ℕ) GltfFault → Result (List (List ℕ)) GltfFault → Result (List (List ℕ)) GltfFault
before (Err fault) more = Err fault
before (Ok bytes) (Err fault) = Err fault
before (Ok bytes) (Ok more) = Ok (bytes ∷ more)

-- the bytes of buffers, of which the first has this index
abbrev pub buffers_from : Option (List ℕ) → ℕ → Items → Result (List (List ℕ)) GltfFault
buffers_from chunk index no_items = Ok []
buffers_from chunk index (item d ds) = before (buffer_in chunk index d) (buffers_from chunk (index + 1) ds)

abbrev pub buffers_or_fault : Option (List ℕ) → Option Items → Result (List (List ℕ)) GltfFault
buffers_or_fault chunk None = Err (NoBuffer 0)
buffers_or_fault chunk (Some ds) = buffers_from chunk 0 ds

abbrev pub buffers_at : Option (List ℕ) → Option Data → Result (List (List ℕ)) GltfFault
buffers_at chunk None = Ok []
buffers_at chunk (Some value) = buffers_or_fault chunk (as_array value)

-- the bytes of all buffers of a document with this binary chunk
unfoldable pub buffers_of : Option (List ℕ) → Data → Result (List (List ℕ)) GltfFault
buffers_of chunk document = buffers_at chunk (get (codes "buffers") document)
