-- The chunks of a GLB: a header of 12 bytes, and then chunks, each with its length, its kind and its bytes
use Rattle.std.specs.Prelude.{ℕ, ◌+◌, Bool, ◌&&◌, List, ◌==◌, nat_le, nat_eq, length, take, codes, Option, None, Some}
use Rattle.std.specs.Prelude.{Result, Ok, Err, if◌then◌else◌}
use Rattle.std.specs.List.{starts_with, between}
use Rattle.std.specs.Option.{option_map}
use Rattle.mesh_read.specs.Stl.Binary.{number_at}
use Rattle.mesh_gltf.specs.declared.chunks.Chunk.{Chunk}
use Rattle.mesh_gltf.specs.declared.chunks.Chunks as code
use Rattle.mesh_gltf.specs.declared.fault.GltfFault.{GltfFault}
use Rattle.mesh_gltf.specs.declared.fault.GltfFault.TheVariants.{CutOff, Version, NoJson}

-- the file is a GLB
abbrev pub is_glb : List ℕ → Bool
is_glb bytes = starts_with nat_eq bytes (codes "glTF")

-- ---- one chunk
-- the chunk at a place, if all of it is there: its length, its kind and its bytes
unfoldable pub chunk_at : List ℕ → ℕ → Option Chunk
chunk_at bytes at =
    if nat_le (at + 8) (length bytes) && nat_le (at + 8 + number_at bytes at) (length bytes)
    then Some (record { kind = number_at bytes (at + 4); start = at + 8; end = at + 8 + number_at bytes at })
    else None

-- the bytes of a chunk of a kind
abbrev pub bytes_of_kind : ℕ → List ℕ → Option Chunk → Option (List ℕ)
bytes_of_kind kind bytes None = None
bytes_of_kind kind bytes (Some chunk) = if chunk.kind == kind then Some (between chunk.start chunk.end bytes) else None

-- ---- both chunks
-- the JSON, and the bytes after it, if there are any
pub record Chunks : Type 0 where
  pub json : List ℕ
  pub binary : Option (List ℕ)

-- the chunks that code has in hand
abbrev pub chunks_seen : code.Chunks → Chunks
chunks_seen c = record { json = c.json.now; binary = option_map (λ b. b.now) c.binary }

abbrev pub with_binary : List ℕ → ℕ → Option (List ℕ) → Result Chunks GltfFault
with_binary bytes end None = Err NoJson
with_binary bytes end (Some json) =
    Ok (record { json = json; binary = bytes_of_kind 5130562 bytes (chunk_at bytes end) })

-- the first chunk is JSON (of the kind `JSON`), and the second may be binary (`BIN` and a 0)
abbrev pub with_first : List ℕ → Option Chunk → Result Chunks GltfFault
with_first bytes None = Err CutOff
with_first bytes (Some chunk) = with_binary bytes chunk.end (bytes_of_kind 1313821514 bytes (Some chunk))

-- the chunks of so many bytes; those after them aren't read
abbrev pub chunks_within : ℕ → List ℕ → Result Chunks GltfFault
chunks_within size bytes =
    if nat_le size (length bytes) then with_first (take size bytes) (chunk_at (take size bytes) 12) else Err CutOff

-- the chunks of a GLB: it says its version, and then how many bytes it has
unfoldable pub glb_chunks : List ℕ → Result Chunks GltfFault
glb_chunks bytes =
    if nat_le 12 (length bytes)
    then (if number_at bytes 4 == 2 then chunks_within (number_at bytes 8) bytes else Err (Version (number_at bytes 4)))
    else Err CutOff

-- the chunks of a file: without a GLB's header all of it is the JSON
unfoldable pub chunks_of : List ℕ → Result Chunks GltfFault
chunks_of bytes = if is_glb bytes then glb_chunks bytes else Ok (record { json = bytes; binary = None })
