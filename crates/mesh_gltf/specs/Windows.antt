-- Accessors: numbers in a part of a buffer, one element after another
use Rattle.std.specs.Prelude.{ℕ, ◌+◌, ◌*◌, ◌-◌, Bool, false, ◌&&◌, ◌||◌, ◌==◌, nat_le, List, codes, length}
use Rattle.std.specs.Prelude.{if◌then◌else◌}
use Rattle.std.specs.Prelude.{Option, None, Some, option_and_then, Result, Ok, Err, is_some}
use Rattle.std.specs.Str.{bytes_eq}
use Rattle.serde_json.specs.Data.{Data}
use Rattle.serde_json.specs.Find.{get, as_str}
use Rattle.mesh_gltf.specs.declared.windows.Window.{Window}
use Rattle.mesh_gltf.specs.declared.fault.GltfFault.{GltfFault}
use Rattle.mesh_gltf.specs.declared.fault.GltfFault.TheVariants.{Accessor, Sparse}
use Rattle.mesh_gltf.specs.Members.{natural_at, natural_or, item_in}

-- what is there, and then what follows from it
abbrev pub bind : {A B : Type 0} → Option A → (A → Option B) → Option B
bind value next = option_and_then next value

-- ---- where the elements are
-- by the accessor and its view of a buffer; without a stride the elements stand side by side
unfoldable pub window_in : ℕ → Data → Data → Option Window
window_in size accessor view =
    bind (natural_at (codes "buffer") view) (λ buffer.
    bind (natural_or 0 (codes "byteOffset") view) (λ begin.
    bind (natural_at (codes "byteLength") view) (λ room.
    bind (natural_or size (codes "byteStride") view) (λ stride.
    bind (natural_or 0 (codes "byteOffset") accessor) (λ offset.
    bind (natural_at (codes "count") accessor) (λ count.
    Some (record { buffer = buffer; start = begin + offset; end = begin + room; stride = stride; count = count })))))))

-- the elements of an accessor of a document
unfoldable pub window_of : ℕ → Data → Data → Option Window
window_of size document accessor =
    bind (natural_at (codes "bufferView") accessor) (λ index.
    bind (item_in (codes "bufferViews") index document) (λ view.
    window_in size accessor view))

-- all elements of this size are in the view, and the view in the buffer; elements don't overlap, so a buffer has
-- no more of them than bytes
unfoldable pub is_inside : ℕ → Window → List ℕ → Bool
is_inside size w bytes =
    nat_le w.end (length bytes) && nat_le size w.stride
    && (w.count == 0 || nat_le (w.start + w.stride * (w.count - 1) + size) w.end)

-- ---- of which kind they are
abbrev pub is_shape : List ℕ → Option (List ℕ) → Bool
is_shape shape None = false
is_shape shape (Some text) = bytes_eq text shape

abbrev pub is_component : ℕ → Option ℕ → Bool
is_component component None = false
is_component component (Some n) = n == component

-- the accessor has elements of this type, as `VEC3`, of numbers of this type
unfoldable pub is_kind : List ℕ → ℕ → Data → Bool
is_kind shape component accessor =
    is_shape shape (option_and_then as_str (get (codes "type") accessor))
    && is_component component (natural_at (codes "componentType") accessor)

abbrev pub window_or_fault : ℕ → Option Window → Result Window GltfFault
window_or_fault index None = Err (Accessor index)
window_or_fault index (Some w) = Ok w

-- the elements of the accessor with this index, which isn't sparse
unfoldable pub dense_window : ℕ → ℕ → Data → Data → Result Window GltfFault
dense_window size index document accessor =
    if is_some (get (codes "sparse") accessor) then Err (Sparse index)
    else window_or_fault index (window_of size document accessor)
