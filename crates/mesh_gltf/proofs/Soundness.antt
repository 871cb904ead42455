-- Each corner that is read is a point
use Rattle.std.proofs.Common.{◌≡◌, ℕ, zero, suc, Bool, true, false, ◌<◌, ◌≤◌, ◌+◌, ◌*◌, ◌^◌, List, [], ◌∷◌, ◌++◌, length, codes, refl, sym}
use Rattle.std.proofs.Common.{subst, arith, inl, inr, length-append, Option, None, Some, Result, Ok, Err, All}
use Rattle.std.specs.Prelude.{if◌then◌else◌, nat_lt, nat_le, option_and_then, IfOk, IfSome}
use Rattle.std.proofs.lemmas.Bool.{cases_Bool, ltb-true}
use Rattle.std.proofs.lemmas.List.Elements.{All-nil, All-cons, All-head, All-tail, All-append}
use Rattle.mesh_read.specs.Surface.Surfaces.{Point, Content, IsWithin, no_content}
use Rattle.mesh_read.proofs.Flaws.{IsSound}
use Rattle.mesh_read.proofs.WavefrontSoundness.{below_more}
use Rattle.serde_json.specs.Data.{Data, Items, no_items, item}
use Rattle.serde_json.specs.Find.{get}
use Rattle.mesh_gltf.specs.declared.corners.IndexSize.{IndexSize}
use Rattle.mesh_gltf.specs.declared.triangles.Topology.{Topology}
use Rattle.mesh_gltf.specs.declared.triangles.Topology.TheVariants.{Triangles, Strip, Fan}
use Rattle.mesh_gltf.specs.declared.windows.Window.{Window}
use Rattle.mesh_gltf.specs.declared.fault.GltfFault.{GltfFault}
use Rattle.mesh_gltf.specs.declared.fault.GltfFault.TheVariants.{Accessor, Node, Mesh, Transform, NoScene, NoSuchVertex, TooMany, NoJson, Draco, Meshopt, Instances}
use Rattle.mesh_gltf.specs.Bytes.{bytes_of, index_at}
use Rattle.mesh_gltf.specs.Heads.{with_head}
use Rattle.mesh_gltf.specs.Members.{natural_at, natural_or, item_in}
use Rattle.mesh_gltf.specs.Chunks.{chunks_of}
use Rattle.mesh_gltf.specs.Buffers.{buffers_of}
use Rattle.mesh_gltf.specs.Corners.{corner_of, corners_from, corners_in, corners_in_row}
use Rattle.mesh_gltf.specs.Triangles.{triangle, of_list, of_strip, of_fan, triangles_of}
use Rattle.mesh_gltf.specs.Primitives.{and_then, or_fault, elements_of, accessor_in, positions_at, points_in, component_of, indexed, corners_by, corners_of}
use Rattle.mesh_gltf.specs.Primitives.{topology_of, unless_many, with_triangles, with_points, with_positions, with_topology, with_primitive}
use Rattle.mesh_gltf.specs.Nodes.{is_still, with_primitives, primitives_of, by_mesh, with_node, children_of, with_nodes}
use Rattle.mesh_gltf.specs.Nodes.{nodes_count, roots_of, scene_content}
use Rattle.mesh_gltf.specs.ReadGltf.{needs, document_content, json_value, content_in}

-- what a step keeps if the first part gives what the second needs
then_holds : {A B : Type 0} (P : A → Type 0) (Q : B → Type 0) (r : Result A GltfFault) (next : A → Result B GltfFault) →
    IfOk r P → ((a : A) → P a → IfOk (next a) Q) → IfOk (and_then r next) Q
then_holds P Q (Err fault) next h k = tt
then_holds P Q (Ok a) next h k = k a h

-- the same where nothing is known of the first part
then_always : {A B : Type 0} (Q : B → Type 0) (r : Result A GltfFault) (next : A → Result B GltfFault) →
    ((a : A) → IfOk (next a) Q) → IfOk (and_then r next) Q
then_always Q (Err fault) next k = tt
then_always Q (Ok a) next k = k a

some_sound : {A : Type 0} (P : A → Type 0) (fault : GltfFault) (o : Option A) → IfSome o P → IfOk (or_fault fault o) P
some_sound P fault None h = tt
some_sound P fault (Some a) h = h

unless_sound : {A : Type 0} (P : A → Type 0) (number : ℕ) (a : A) → P a → IfOk (unless_many number a) P
unless_sound {A} P number a h =
    elim (nat_le number (2 ^ 24)) as (λ (t : Bool). IfOk {T = A} {E = GltfFault} (if t then Ok a else Err TooMany) P) [ true ↦ h | false ↦ tt ]

-- ---- corners
abbrev AreBelow : ℕ → List ℕ → Type 0
AreBelow n corners = All (λ c. c < n) corners

head_sound : (n : ℕ) (o : Option ℕ) (more : Option (List ℕ)) → IfSome o (λ c. c < n) → IfSome more (AreBelow n) →
    IfSome (with_head o more) (AreBelow n)
head_sound n None more h hs = tt
head_sound n (Some c) None h hs = tt
head_sound n (Some c) (Some more) h hs = All-cons (λ c. c < n) c more h hs

corner_sound : (base points index : ℕ) → IfSome (corner_of base points index) (λ c. c < base + points)
corner_sound base points index =
    elim (cases_Bool (nat_lt index points)) [
      | inl h ↦
          let some : corner_of base points index ≡ Some (base + index) = rw h refl in
          let within : base + index < base + points = omega (arith, ltb-true index points h) in
          subst (λ (o : Option ℕ). IfSome o (λ c. c < base + points)) (sym some) within
      | inr h ↦
          let none : corner_of base points index ≡ None = rw h refl in
          subst (λ (o : Option ℕ). IfSome o (λ c. c < base + points)) (sym none) tt
    ]

corners_sound : (base points : ℕ) (size : IndexSize) (w : Window) (bytes : List ℕ) (index left : ℕ) →
    IfSome (corners_from base points size w bytes index left) (AreBelow (base + points))
corners_sound base points size w bytes index zero = All-nil (λ c. c < base + points)
corners_sound base points size w bytes index (suc left) =
    head_sound (base + points) (corner_of base points (index_at size bytes (w.start + w.stride * index)))
    (corners_from base points size w bytes (index + 1) left)
    (corner_sound base points (index_at size bytes (w.start + w.stride * index)))
    (corners_sound base points size w bytes (index + 1) left)

row_sound : (n first count : ℕ) → first + count ≤ n → AreBelow n (corners_in_row first count)
row_sound n first zero h = All-nil (λ c. c < n)
row_sound n first (suc left) h =
    All-cons (λ c. c < n) first (corners_in_row (first + 1) left) (omega arith) (row_sound n (first + 1) left (omega arith))

indexed_sound : (mesh index base points : ℕ) (document : Data) (buffers : List (List ℕ)) →
    IfOk (indexed mesh index base points document buffers) (AreBelow (base + points))
unfolding indexed corners_in
indexed_sound mesh index base points document buffers =
    then_always (AreBelow (base + points)) (accessor_in index document) _ (λ accessor.
    then_always (AreBelow (base + points)) (or_fault (Accessor index) (component_of accessor)) _ (λ size.
    then_always (AreBelow (base + points)) (elements_of (bytes_of size) index document buffers accessor) _ (λ e.
    some_sound (AreBelow (base + points)) (NoSuchVertex mesh) (corners_in base points size e.window e.bytes)
    (corners_sound base points size e.window e.bytes 0 e.window.count))))

corners_by_sound : (mesh base points : ℕ) (document : Data) (buffers : List (List ℕ)) (member : Option Data) (index : Option ℕ) →
    IfOk (corners_by mesh base points document buffers member index) (AreBelow (base + points))
corners_by_sound mesh base points document buffers None index = row_sound (base + points) base points (omega arith)
corners_by_sound mesh base points document buffers (Some member) None = tt
corners_by_sound mesh base points document buffers (Some member) (Some index) = indexed_sound mesh index base points document buffers

corners_of_sound : (mesh base points : ℕ) (document : Data) (buffers : List (List ℕ)) (primitive : Data) →
    IfOk (corners_of mesh base points document buffers primitive) (AreBelow (base + points))
unfolding corners_of
corners_of_sound mesh base points document buffers primitive =
    corners_by_sound mesh base points document buffers (get (codes "indices") primitive) (natural_at (codes "indices") primitive)

-- ---- triangles
triangle_within : (n place a b c : ℕ) → a < n → b < n → c < n → IsWithin n (triangle place a b c)
triangle_within n place a b c ha hb hc =
    All-cons (λ c. c < n) a (b ∷ c ∷ []) ha (All-cons (λ c. c < n) b (c ∷ []) hb (All-cons (λ c. c < n) c [] hc (All-nil (λ c. c < n))))

list_within : (n place : ℕ) (corners : List ℕ) → AreBelow n corners → All (IsWithin n) (of_list place corners)
list_within n place [] hs = All-nil (IsWithin n)
list_within n place (a ∷ []) hs = All-nil (IsWithin n)
list_within n place (a ∷ b ∷ []) hs = All-nil (IsWithin n)
list_within n place (a ∷ b ∷ c ∷ more) hs =
    let others : AreBelow n (b ∷ c ∷ more) = All-tail (λ c. c < n) a (b ∷ c ∷ more) hs in
    let last : AreBelow n (c ∷ more) = All-tail (λ c. c < n) b (c ∷ more) others in
    All-cons (IsWithin n) (triangle place a b c) (of_list (place + 1) more)
    (triangle_within n place a b c (All-head (λ c. c < n) a (b ∷ c ∷ more) hs) (All-head (λ c. c < n) b (c ∷ more) others)
    (All-head (λ c. c < n) c more last))
    (list_within n (place + 1) more (All-tail (λ c. c < n) c more last))

strip_within : (n : ℕ) (odd : Bool) (place a b : ℕ) (corners : List ℕ) → a < n → b < n → AreBelow n corners →
    All (IsWithin n) (of_strip odd place a b corners)
strip_within n odd place a b [] ha hb hs = All-nil (IsWithin n)
strip_within n true place a b (c ∷ more) ha hb hs =
    let hc : c < n = All-head (λ c. c < n) c more hs in
    All-cons (IsWithin n) (triangle place b a c) (of_strip false (place + 1) b c more) (triangle_within n place b a c hb ha hc)
    (strip_within n false (place + 1) b c more hb hc (All-tail (λ c. c < n) c more hs))
strip_within n false place a b (c ∷ more) ha hb hs =
    let hc : c < n = All-head (λ c. c < n) c more hs in
    All-cons (IsWithin n) (triangle place a b c) (of_strip true (place + 1) b c more) (triangle_within n place a b c ha hb hc)
    (strip_within n true (place + 1) b c more hb hc (All-tail (λ c. c < n) c more hs))

fan_within : (n place first b : ℕ) (corners : List ℕ) → first < n → b < n → AreBelow n corners → All (IsWithin n) (of_fan place first b corners)
fan_within n place first b [] hf hb hs = All-nil (IsWithin n)
fan_within n place first b (c ∷ more) hf hb hs =
    let hc : c < n = All-head (λ c. c < n) c more hs in
    All-cons (IsWithin n) (triangle place b c first) (of_fan (place + 1) first c more) (triangle_within n place b c first hb hc hf)
    (fan_within n (place + 1) first c more hf hc (All-tail (λ c. c < n) c more hs))

triangles_within : (n : ℕ) (topology : Topology) (place : ℕ) (corners : List ℕ) → AreBelow n corners → All (IsWithin n) (triangles_of topology place corners)
triangles_within n Triangles place corners hs = list_within n place corners hs
triangles_within n Strip place [] hs = All-nil (IsWithin n)
triangles_within n Strip place (a ∷ []) hs = All-nil (IsWithin n)
triangles_within n Strip place (a ∷ b ∷ more) hs =
    let others : AreBelow n (b ∷ more) = All-tail (λ c. c < n) a (b ∷ more) hs in
    strip_within n false place a b more (All-head (λ c. c < n) a (b ∷ more) hs) (All-head (λ c. c < n) b more others)
    (All-tail (λ c. c < n) b more others)
triangles_within n Fan place [] hs = All-nil (IsWithin n)
triangles_within n Fan place (a ∷ []) hs = All-nil (IsWithin n)
triangles_within n Fan place (a ∷ b ∷ more) hs =
    let others : AreBelow n (b ∷ more) = All-tail (λ c. c < n) a (b ∷ more) hs in
    fan_within n place a b more (All-head (λ c. c < n) a (b ∷ more) hs) (All-head (λ c. c < n) b more others)
    (All-tail (λ c. c < n) b more others)

-- ---- what a primitive, a node and a scene add

triangles_sound : (content : Content) (points : List Point) (topology : Topology) (corners : List ℕ) → IsSound content →
    AreBelow (length content.points + length points) corners → IsSound (with_triangles content points topology corners)
triangles_sound content points topology corners h hs =
    let both : length content.points + length points ≡ length (content.points ++ points) = sym (length-append content.points points) in
    let more : length content.points ≤ length (content.points ++ points) = omega (arith, both) in
    let below : AreBelow (length (content.points ++ points)) corners = subst (λ (n : ℕ). AreBelow n corners) both hs in
    All-append (IsWithin (length (content.points ++ points))) content.facets (triangles_of topology (length content.facets + 1) corners)
    (below_more (length content.points) (length (content.points ++ points)) content.facets more h)
    (triangles_within (length (content.points ++ points)) topology (length content.facets + 1) corners below)

points_sound : (mesh : ℕ) (document : Data) (buffers : List (List ℕ)) (primitive : Data) (topology : Topology)
    (content : Content) (points : List Point) → IsSound content →
    IfOk (with_points mesh document buffers primitive topology content points) IsSound
points_sound mesh document buffers primitive topology content points h =
    then_holds (AreBelow (length content.points + length points)) IsSound
    (corners_of mesh (length content.points) (length points) document buffers primitive) _
    (corners_of_sound mesh (length content.points) (length points) document buffers primitive) (λ corners hs.
    unless_sound IsSound (length content.facets + length corners) (with_triangles content points topology corners)
    (triangles_sound content points topology corners h hs))

positions_sound : (mesh index : ℕ) (document : Data) (buffers : List (List ℕ)) (primitive : Data) (topology : Topology)
    (content : Content) → IsSound content →
    IfOk (with_positions mesh index document buffers primitive topology content) IsSound
positions_sound mesh index document buffers primitive topology content h =
    then_always IsSound (positions_at index document buffers) _ (λ e.
    then_always IsSound (unless_many (length content.points + e.window.count) e) _ (λ e.
    then_always IsSound (points_in index e) _ (λ points.
    points_sound mesh document buffers primitive topology content points h)))

topology_sound : (mesh : ℕ) (document : Data) (buffers : List (List ℕ)) (primitive : Data) (content : Content)
    (topology : Option Topology) → IsSound content →
    IfOk (with_topology mesh document buffers primitive content topology) IsSound
unfolding with_topology
topology_sound mesh document buffers primitive content None h = h
topology_sound mesh document buffers primitive content (Some topology) h =
    then_always IsSound (or_fault (Mesh mesh) (option_and_then (natural_at (codes "POSITION")) (get (codes "attributes") primitive))) _
    (λ index. positions_sound mesh index document buffers primitive topology content h)

primitive_sound : (mesh : ℕ) (document : Data) (buffers : List (List ℕ)) (content : Content) (primitive : Data) →
    IsSound content → IfOk (with_primitive mesh document buffers content primitive) IsSound
unfolding with_primitive
primitive_sound mesh document buffers content primitive h =
    then_always IsSound (or_fault (Mesh mesh) (option_and_then topology_of (natural_or 4 (codes "mode") primitive))) _
    (λ topology. topology_sound mesh document buffers primitive content topology h)

primitives_sound : (mesh : ℕ) (document : Data) (buffers : List (List ℕ)) (content : Content) (ds : Items) →
    IsSound content → IfOk (with_primitives mesh document buffers content ds) IsSound
primitives_sound mesh document buffers content no_items h = h
primitives_sound mesh document buffers content (item d ds) h =
    then_holds IsSound IsSound (with_primitive mesh document buffers content d) (λ c. with_primitives mesh document buffers c ds)
    (primitive_sound mesh document buffers content d h) (λ c hc. primitives_sound mesh document buffers c ds hc)

by_mesh_sound : (index : ℕ) (document : Data) (buffers : List (List ℕ)) (content : Content) (member : Option Data) (mesh : Option ℕ) →
    IsSound content → IfOk (by_mesh index document buffers content member mesh) IsSound
by_mesh_sound index document buffers content None mesh h = h
by_mesh_sound index document buffers content (Some member) None h = tt
by_mesh_sound index document buffers content (Some member) (Some mesh) h =
    then_always IsSound (or_fault (Mesh mesh) (primitives_of mesh document)) _
    (λ ds. primitives_sound mesh document buffers content ds h)

node_sound : (index : ℕ) (document : Data) (buffers : List (List ℕ)) (content : Content) (node : Data) →
    IsSound content → IfOk (with_node index document buffers content node) IsSound
unfolding with_node
node_sound index document buffers content node h =
    elim (is_still node) as (λ (t : Bool). IfOk (if t then by_mesh index document buffers content (get (codes "mesh") node)
    (natural_at (codes "mesh") node) else Err (Transform index)) IsSound) [
      | true ↦ by_mesh_sound index document buffers content (get (codes "mesh") node) (natural_at (codes "mesh") node) h
      | false ↦ tt
    ]

nodes_sound : (left : ℕ) (document : Data) (buffers : List (List ℕ)) (waiting : List ℕ) (content : Content) →
    IsSound content → IfOk (with_nodes left document buffers waiting content) IsSound
nodes_sound zero document buffers [] content h = h
nodes_sound (suc left) document buffers [] content h = h
nodes_sound zero document buffers (index ∷ waiting) content h =
    then_always IsSound (or_fault (Node index) (item_in (codes "nodes") index document)) _ (λ node. tt)
nodes_sound (suc left) document buffers (index ∷ waiting) content h =
    then_always IsSound (or_fault (Node index) (item_in (codes "nodes") index document)) _ (λ node.
    then_holds IsSound IsSound (with_node index document buffers content node) _
    (node_sound index document buffers content node h) (λ c hc.
    then_always IsSound (children_of index node) _ (λ children.
    nodes_sound left document buffers (waiting ++ children) c hc)))

scene_sound : (document : Data) (buffers : List (List ℕ)) (content : Content) → IsSound content →
    IfOk (scene_content document buffers content) IsSound
unfolding scene_content
scene_sound document buffers content h =
    then_always IsSound (or_fault NoScene (roots_of document)) _ (λ roots.
    nodes_sound (nodes_count document) document buffers roots content h)

required_sound : (required : Bool) (fault : GltfFault) (r : Result Content GltfFault) → IfOk r IsSound →
    IfOk (if required then Err fault else r) IsSound
required_sound true fault r h = tt
required_sound false fault r h = h

document_sound : (chunk : Option (List ℕ)) (document : Data) → IfOk (document_content chunk document) IsSound
unfolding document_content
document_sound chunk document =
    required_sound (needs (codes "KHR_draco_mesh_compression") document) Draco _
    (required_sound (needs (codes "EXT_meshopt_compression") document) Meshopt _
    (required_sound (needs (codes "EXT_mesh_gpu_instancing") document) Instances _
    (then_always IsSound (buffers_of chunk document) _
    (λ buffers. scene_sound document buffers no_content (All-nil (IsWithin 0))))))

-- each corner of what is read is a point
pub content_sound : (bytes : List ℕ) → IfOk (content_in bytes) IsSound
unfolding content_in
content_sound bytes =
    then_always IsSound (chunks_of bytes) _ (λ c.
    then_always IsSound (or_fault NoJson (json_value c.json)) _ (λ document.
    document_sound c.binary document))
