-- The nodes of a scene, and the meshes that they have
use Rattle.std.specs.Prelude.{ℕ, zero, suc, Bool, true, false, ◌&&◌, List, [], ◌∷◌, ◌++◌, codes, if◌then◌else◌}
use Rattle.std.specs.Prelude.{Option, None, Some, option_and_then, Result, Ok, Err, Float, pos}
use Rattle.std.specs.Option.{option_map}
use Rattle.std.specs.Float.{binary64}
use Rattle.std.specs.Float.Ieee as floats
use Rattle.mesh_read.specs.Surface.Surfaces.{Content}
use Rattle.serde_json.specs.Data.{Data, Items, no_items, item}
use Rattle.serde_json.specs.Find.{get, as_array, as_number, to_float}
use Rattle.mesh_gltf.specs.declared.fault.GltfFault.{GltfFault}
use Rattle.mesh_gltf.specs.declared.fault.GltfFault.TheVariants.{Node, Mesh, Transform, TwiceInScene, NoScene}
use Rattle.mesh_gltf.specs.Members.{natural_or, natural_at, naturals_at, item_in}
use Rattle.mesh_gltf.specs.Primitives.{and_then, or_fault, with_primitive}

-- ---- transforms
abbrev pub is_same : Float → Option Float → Bool
is_same number None = false
is_same number (Some found) = floats.eq found number

-- the value is this number
abbrev pub is_number : Float → Data → Bool
is_number number value = is_same number (option_map to_float (as_number value))

-- the items are these numbers
abbrev pub are_numbers : List Float → Items → Bool
are_numbers [] no_items = true
are_numbers [] (item d ds) = false
are_numbers (n ∷ ns) no_items = false
are_numbers (n ∷ ns) (item d ds) = is_number n d && are_numbers ns ds

abbrev pub is_list : List Float → Option Items → Bool
is_list numbers None = false
is_list numbers (Some ds) = are_numbers numbers ds

unfoldable pub is_missing_or : List Float → Option Data → Bool
is_missing_or numbers None = true
is_missing_or numbers (Some value) = is_list numbers (as_array value)

abbrev pub nought : Float
nought = floats.of_int binary64 (pos 0)

abbrev pub unit : Float
unit = floats.of_int binary64 (pos 1)

-- the columns of the identity
abbrev pub identity : List Float
identity =
    unit ∷ nought ∷ nought ∷ nought ∷ nought ∷ unit ∷ nought ∷ nought
    ∷ nought ∷ nought ∷ unit ∷ nought ∷ nought ∷ nought ∷ nought ∷ unit ∷ []

-- the node leaves what is in it where it is
unfoldable pub is_still : Data → Bool
is_still node =
    is_missing_or identity (get (codes "matrix") node)
    && is_missing_or (nought ∷ nought ∷ nought ∷ []) (get (codes "translation") node)
    && is_missing_or (nought ∷ nought ∷ nought ∷ unit ∷ []) (get (codes "rotation") node)
    && is_missing_or (unit ∷ unit ∷ unit ∷ []) (get (codes "scale") node)

-- ---- meshes
-- the content with the primitives of the mesh with this index
abbrev pub with_primitives : ℕ → Data → List (List ℕ) → Content → Items → Result Content GltfFault
with_primitives mesh document buffers content no_items = Ok content
with_primitives mesh document buffers content (item d ds) =
    and_then (with_primitive mesh document buffers content d) (λ c. with_primitives mesh document buffers c ds)

-- the primitives of the mesh with this index
unfoldable pub primitives_of : ℕ → Data → Option Items
primitives_of mesh document =
    option_and_then as_array (option_and_then (get (codes "primitives")) (item_in (codes "meshes") mesh document))

abbrev pub with_mesh : ℕ → Data → List (List ℕ) → Content → Result Content GltfFault
with_mesh mesh document buffers content =
    and_then (or_fault (Mesh mesh) (primitives_of mesh document)) (λ ds.
    with_primitives mesh document buffers content ds)

-- ---- nodes
abbrev pub by_mesh : ℕ → Data → List (List ℕ) → Content → Option Data → Option ℕ → Result Content GltfFault
by_mesh index document buffers content None mesh = Ok content
by_mesh index document buffers content (Some member) None = Err (Node index)
by_mesh index document buffers content (Some member) (Some mesh) = with_mesh mesh document buffers content

-- the content with the mesh of the node with this index, if it has one
unfoldable pub with_node : ℕ → Data → List (List ℕ) → Content → Data → Result Content GltfFault
with_node index document buffers content node =
    if is_still node
    then by_mesh index document buffers content (get (codes "mesh") node) (natural_at (codes "mesh") node)
    else Err (Transform index)

-- the children of a node
abbrev pub children_of : ℕ → Data → Result (List ℕ) GltfFault
children_of index node = or_fault (Node index) (naturals_at (codes "children") node)

-- the content with waiting nodes and those below them, the nearest to the roots first. Each node is in the scene once,
-- so no more come than the document has; `left` of them haven't come yet
abbrev pub with_nodes : ℕ → Data → List (List ℕ) → List ℕ → Content → Result Content GltfFault
with_nodes left document buffers [] content = Ok content
with_nodes zero document buffers (index ∷ waiting) content =
    and_then (or_fault (Node index) (item_in (codes "nodes") index document)) (λ node. Err (TwiceInScene index))
with_nodes (suc left) document buffers (index ∷ waiting) content =
    and_then (or_fault (Node index) (item_in (codes "nodes") index document)) (λ node.
    and_then (with_node index document buffers content node) (λ c.
    and_then (children_of index node) (λ children.
    with_nodes left document buffers (waiting ++ children) c)))

-- how many items there are
abbrev pub count_of : Items → ℕ
count_of no_items = 0
count_of (item d ds) = suc (count_of ds)

abbrev pub count_or_none : Option Items → ℕ
count_or_none None = 0
count_or_none (Some ds) = count_of ds

-- how many nodes a document has
unfoldable pub nodes_count : Data → ℕ
nodes_count document = count_or_none (option_and_then as_array (get (codes "nodes") document))

-- the nodes of the scene that the document names, or else of its first scene
unfoldable pub roots_of : Data → Option (List ℕ)
roots_of document =
    option_and_then (naturals_at (codes "nodes"))
    (option_and_then (λ scene. item_in (codes "scenes") scene document) (natural_or 0 (codes "scene") document))

-- what the scene of a document has, with these buffers
unfoldable pub scene_content : Data → List (List ℕ) → Content → Result Content GltfFault
scene_content document buffers content =
    and_then (or_fault NoScene (roots_of document)) (λ roots.
    with_nodes (nodes_count document) document buffers roots content)
