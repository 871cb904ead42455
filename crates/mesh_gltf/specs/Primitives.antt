-- What a primitive of a mesh adds: points, and triangles over them
use Rattle.std.specs.Prelude.{◌≡◌, ℕ, zero, suc, ◌+◌, ◌*◌, ◌^◌, List, [], ◌++◌, length, codes, nat_le}
use Rattle.std.specs.Prelude.{if◌then◌else◌, ◌==◌}
use Rattle.std.specs.Prelude.{Option, None, Some, option_and_then, Result, Ok, Err, slice_get}
use Rattle.mesh_read.specs.Surface.Surfaces.{Point, Content}
use Rattle.mesh_read.specs.Stl.Binary.{point_at}
use Rattle.serde_json.specs.Data.{Data}
use Rattle.serde_json.specs.Find.{get}
use Rattle.mesh_gltf.specs.declared.corners.IndexSize.{IndexSize}
use Rattle.mesh_gltf.specs.declared.triangles.Topology.{Topology}
use Rattle.mesh_gltf.specs.declared.triangles.Topology.TheVariants.{Triangles, Strip, Fan}
use Rattle.mesh_gltf.specs.declared.windows.Window.{Window}
use Rattle.mesh_gltf.specs.declared.points.Elements as code
use Rattle.mesh_gltf.specs.declared.fault.GltfFault.{GltfFault}
use Rattle.mesh_gltf.specs.declared.fault.GltfFault.TheVariants.{Accessor, Mesh, NotFinite, NoSuchVertex, TooMany}
use Rattle.mesh_gltf.specs.Bytes.{bytes_of}
use Rattle.mesh_gltf.specs.Heads.{with_head}
use Rattle.mesh_gltf.specs.Members.{natural_at, natural_or, item_in}
use Rattle.mesh_gltf.specs.Windows.{is_kind, is_inside, dense_window}
use Rattle.mesh_gltf.specs.Corners.{size_of_type, corners_in, corners_in_row}
use Rattle.mesh_gltf.specs.Triangles.{triangles_of}

-- what is read first, and then the next with its result, up to the first fault
abbrev pub and_then : {A B : Type 0} → Result A GltfFault → (A → Result B GltfFault) → Result B GltfFault
and_then (Err fault) next = Err fault
and_then (Ok first) next = next first

-- what is there, or else a fault
abbrev pub or_fault : {A : Type 0} → GltfFault → Option A → Result A GltfFault
or_fault fault None = Err fault
or_fault fault (Some a) = Ok a

-- ---- accessors
-- a window with the bytes of its buffer
pub record Elements : Type 0 where
  pub window : Window
  pub bytes : List ℕ

-- the elements that code has in hand
abbrev pub elements_seen : code.Elements → Elements
elements_seen e = record { window = e.window; bytes = e.bytes.now }

abbrev pub if_inside : ℕ → ℕ → Window → List ℕ → Result Elements GltfFault
if_inside size index w bytes =
    if is_inside size w bytes then Ok (record { window = w; bytes = bytes }) else Err (Accessor index)

-- the elements of an accessor, each of so many bytes
unfoldable pub elements_of : ℕ → ℕ → Data → List (List ℕ) → Data → Result Elements GltfFault
elements_of size index document buffers accessor =
    and_then (dense_window size index document accessor) (λ w.
    and_then (or_fault (Accessor index) (slice_get buffers w.buffer)) (λ bytes.
    if_inside size index w bytes))

-- the accessor with this index
abbrev pub accessor_in : ℕ → Data → Result Data GltfFault
accessor_in index document = or_fault (Accessor index) (item_in (codes "accessors") index document)

-- ---- points
-- the elements of three binary32 each
abbrev pub positions_of : ℕ → Data → List (List ℕ) → Data → Result Elements GltfFault
positions_of index document buffers accessor =
    if is_kind (codes "VEC3") 5126 accessor then elements_of 12 index document buffers accessor
    else Err (Accessor index)

unfoldable pub positions_at : ℕ → Data → List (List ℕ) → Result Elements GltfFault
positions_at index document buffers =
    and_then (accessor_in index document) (λ accessor. positions_of index document buffers accessor)

-- n points, from one on; none if a coordinate isn't finite
abbrev pub points_from : Elements → ℕ → ℕ → Option (List Point)
points_from e index zero = Some []
points_from e index (suc left) =
    with_head (point_at e.bytes (e.window.start + e.window.stride * index)) (points_from e (index + 1) left)

-- all points of the accessor with this index
unfoldable pub points_in : ℕ → Elements → Result (List Point) GltfFault
points_in index e = or_fault (NotFinite index) (points_from e 0 e.window.count)

-- `new` has all of them behind what `old` has
pub record AreAdded (index : ℕ) (e : Elements) (old new : List Point) : Type 0 where
  pub points : List Point
  pub read : points_in index e ≡ Ok points
  pub behind_old : new ≡ old ++ points
  pub counted : length points ≡ e.window.count

-- ---- corners
-- the corners by an accessor of indices
abbrev pub indexed_by_size : ℕ → ℕ → ℕ → ℕ → Data → List (List ℕ) → Data → IndexSize → Result (List ℕ) GltfFault
indexed_by_size mesh index base points document buffers accessor size =
    and_then (elements_of (bytes_of size) index document buffers accessor) (λ e.
    or_fault (NoSuchVertex mesh) (corners_in base points size e.window e.bytes))

abbrev pub component_of : Data → Option IndexSize
component_of accessor = option_and_then size_of_type (natural_at (codes "componentType") accessor)

unfoldable pub indexed : ℕ → ℕ → ℕ → ℕ → Data → List (List ℕ) → Result (List ℕ) GltfFault
indexed mesh index base points document buffers =
    and_then (accessor_in index document) (λ accessor.
    and_then (or_fault (Accessor index) (component_of accessor)) (λ size.
    indexed_by_size mesh index base points document buffers accessor size))

abbrev pub corners_by : ℕ → ℕ → ℕ → Data → List (List ℕ) → Option Data → Option ℕ → Result (List ℕ) GltfFault
corners_by mesh base points document buffers None index = Ok (corners_in_row base points)
corners_by mesh base points document buffers (Some member) None = Err (Mesh mesh)
corners_by mesh base points document buffers (Some member) (Some index) =
    indexed mesh index base points document buffers

-- the corners of a primitive: by its indices or, if it has none, its points in their order
unfoldable pub corners_of : ℕ → ℕ → ℕ → Data → List (List ℕ) → Data → Result (List ℕ) GltfFault
corners_of mesh base points document buffers primitive =
    corners_by mesh base points document buffers (get (codes "indices") primitive)
    (natural_at (codes "indices") primitive)

-- ---- primitives
-- how corners are triangles: of points and lines, they are none
abbrev pub topology_of : ℕ → Option (Option Topology)
topology_of mode =
    if nat_le mode 3 then Some None
    else (if mode == 4 then Some (Some Triangles)
    else (if mode == 5 then Some (Some Strip)
    else (if mode == 6 then Some (Some Fan)
    else None)))

-- there are at most 2^24 points, and as many corners of triangles
abbrev pub unless_many : {A : Type 0} → ℕ → A → Result A GltfFault
unless_many number a = if nat_le number (2 ^ 24) then Ok a else Err TooMany

abbrev pub with_triangles : Content → List Point → Topology → List ℕ → Content
with_triangles content points topology corners = record {
  points = content.points ++ points;
  facets = content.facets ++ triangles_of topology (length content.facets + 1) corners;
}

-- the content with the triangles of these points
abbrev pub with_points : ℕ → Data → List (List ℕ) → Data → Topology → Content → List Point → Result Content GltfFault
with_points mesh document buffers primitive topology content points =
    and_then (corners_of mesh (length content.points) (length points) document buffers primitive) (λ corners.
    unless_many (length content.facets + length corners) (with_triangles content points topology corners))

-- the content with the triangles of a primitive whose points are in the accessor with this index
abbrev pub with_positions : ℕ → ℕ → Data → List (List ℕ) → Data → Topology → Content → Result Content GltfFault
with_positions mesh index document buffers primitive topology content =
    and_then (positions_at index document buffers) (λ e.
    and_then (unless_many (length content.points + e.window.count) e) (λ e.
    and_then (points_in index e) (λ points.
    with_points mesh document buffers primitive topology content points)))

unfoldable pub with_topology : ℕ → Data → List (List ℕ) → Data → Content → Option Topology → Result Content GltfFault
with_topology mesh document buffers primitive content None = Ok content
with_topology mesh document buffers primitive content (Some topology) =
    and_then
    (or_fault (Mesh mesh) (option_and_then (natural_at (codes "POSITION")) (get (codes "attributes") primitive)))
    (λ index. with_positions mesh index document buffers primitive topology content)

-- the content with a primitive of the mesh with this index
unfoldable pub with_primitive : ℕ → Data → List (List ℕ) → Content → Data → Result Content GltfFault
with_primitive mesh document buffers content primitive =
    and_then (or_fault (Mesh mesh) (option_and_then topology_of (natural_or 4 (codes "mode") primitive))) (λ topology.
    with_topology mesh document buffers primitive content topology)
