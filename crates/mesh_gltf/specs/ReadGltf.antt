-- What the bytes of a glTF document mean: points and triangles, or the first fault
use Rattle.std.specs.Prelude.{ℕ, Bool, false, ◌||◌, List, codes, if◌then◌else◌}
use Rattle.std.specs.Prelude.{Option, None, Some, option_and_then, Result, Err}
use Rattle.std.specs.Str.{bytes_eq, is_utf8}
use Rattle.mesh_read.specs.declared.surface.flaw.Flaw.{Flaw}
use Rattle.mesh_read.specs.declared.surface.flaw.Flaw.TheVariants as flaw
use Rattle.mesh_read.specs.Surface.Surfaces.{Content, no_content}
use Rattle.mesh_read.specs.Surface.Flaws.{as_mesh}
use Rattle.serde_json.specs.Data.{Data, Items, no_items, item}
use Rattle.serde_json.specs.Read.{read}
use Rattle.serde_json.specs.Find.{get, as_array, as_str}
use Rattle.mesh_gltf.specs.declared.fault.GltfFault.{GltfFault}
use Rattle.mesh_gltf.specs.declared.fault.GltfFault.TheVariants.{NoJson, Draco, Meshopt, Instances, NoTriangles}
use Rattle.mesh_gltf.specs.declared.fault.GltfFault.TheVariants.{TooLarge}
use Rattle.mesh_gltf.specs.Chunks.{chunks_of}
use Rattle.mesh_gltf.specs.Buffers.{buffers_of}
use Rattle.mesh_gltf.specs.Primitives.{and_then, or_fault}
use Rattle.mesh_gltf.specs.Nodes.{scene_content}

-- ---- extensions
abbrev pub is_text : List ℕ → Option (List ℕ) → Bool
is_text wanted None = false
is_text wanted (Some text) = bytes_eq text wanted

-- one of the items is this text
abbrev pub has_text : List ℕ → Items → Bool
has_text wanted no_items = false
has_text wanted (item d ds) = is_text wanted (as_str d) || has_text wanted ds

abbrev pub lists : List ℕ → Option Items → Bool
lists wanted None = false
lists wanted (Some ds) = has_text wanted ds

-- the document can't be read without this extension
unfoldable pub needs : List ℕ → Data → Bool
needs extension document =
    lists extension (option_and_then as_array (get (codes "extensionsRequired") document))

-- ---- the document

-- the content of a document with this binary chunk
unfoldable pub document_content : Option (List ℕ) → Data → Result Content GltfFault
document_content chunk document =
    if needs (codes "KHR_draco_mesh_compression") document then Err Draco
    else (if needs (codes "EXT_meshopt_compression") document then Err Meshopt
    else (if needs (codes "EXT_mesh_gpu_instancing") document then Err Instances
    else and_then (buffers_of chunk document) (λ buffers. scene_content document buffers no_content)))

-- the value that a JSON text has, if its bytes are UTF-8
abbrev pub json_value : List ℕ → Option Data
json_value text = if is_utf8 text then read text else None

-- the content of a file, whether it is a mesh or not
unfoldable pub content_in : List ℕ → Result Content GltfFault
content_in bytes =
    and_then (chunks_of bytes) (λ c.
    and_then (or_fault NoJson (json_value c.json)) (λ document.
    document_content c.binary document))

-- ---- what no mesh has
abbrev pub of_flaw : Flaw → GltfFault
of_flaw flaw.NoTriangles = NoTriangles
of_flaw (flaw.TooLarge triangle) = TooLarge triangle

-- what a file says, or its first fault
abbrev pub read_gltf_of : List ℕ → Result Content GltfFault
read_gltf_of bytes = as_mesh of_flaw (content_in bytes)
