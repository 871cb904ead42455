-- The closed meshes of surfaces: the first that is open or too large, and all of them together
use Rattle.std.proofs.Common.{◌≡◌, ℕ, zero, suc, ◌+◌, ◌<◌, ◌≤◌, true, false, Some, List, [], ◌∷◌, ◌++◌, map, length}
use Rattle.std.proofs.Common.{take, get_or, refl, sym, ap, subst, ◌∙◌, arith, length-append}
use Rattle.std.specs.List.{All, flat_map, take_while, slice_get}
use Rattle.std.proofs.lemmas.Bool.{le-leb, lt-leb}
use Rattle.std.proofs.lemmas.Option.{slice_get-get_or}
use Rattle.std.proofs.lemmas.List.{take_more, map-append, length-map}
use Rattle.std.proofs.lemmas.List.Elements.{All-nil, All-cons, All-head, All-tail}
use Rattle.std.proofs.lemmas.List.Sums.{take_while-cons}
use Rattle.std.proofs.lemmas.List.Concat.{flat_map-cons}
use Rattle.std.proofs.lemmas.List.Folds.{flat_map-map}
use Rattle.mesh_read.specs.declared.surface.surface.Surface.{Surface}
use Rattle.ember_model.specs.declared.tri.Tri.{Tri}
use Rattle.ember_model.specs.Meshes.{IsBalanced}
use Rattle.ember_mesh.specs.declared.states.Closed.{Closed}
use Rattle.ember_mesh.specs.Joined.{triangles_of, AreNumbered}
use Rattle.mesh_grid.specs.declared.grid.grid.Grid.{Grid}
use Rattle.mesh_grid.specs.Grid.Corners.{corner_at}
use Rattle.mesh_grid.proofs.Growing.{images_of_mesh}
use Rattle.mesh_scene.specs.declared.scene.counts.Counts.{Counts}
use Rattle.mesh_scene.specs.declared.scene.fault.Open.{Open}
use Rattle.mesh_scene.specs.Scene.Images.{images_on, places_on, meshes_on, images_of, counts_on}
use Rattle.mesh_scene.specs.Scene.Faults.{has_few, IsClosedMesh, IsOpenMesh, IsFirstOpen}
use Rattle.mesh_scene.proofs.Meshes.{length-images_on, length-meshes_on, meshes_more}

-- ---- closed meshes
-- the parts that the code keeps are closed meshes
pub parts_are_closed : (parts : List Closed) → All IsClosedMesh (map (λ part. part.tris) parts)
parts_are_closed [] = All-nil IsClosedMesh
parts_are_closed (part ∷ parts) =
    All-cons IsClosedMesh part.tris (map (λ part. part.tris) parts) (record { few = part.few; balanced = part.balanced }) (parts_are_closed parts)

small : (ts : List Tri) → length ts ≤ 262144 → has_few ts ≡ true
small ts l = le-leb (length ts) 262144 l

large : (ts : List Tri) → 262144 < length ts → has_few ts ≡ false
large ts l = lt-leb (length ts) 262144 l

take_while_few : (ts : List Tri) (meshes : List (List Tri)) → has_few ts ≡ true → take_while has_few (ts ∷ meshes) ≡ ts ∷ take_while has_few meshes
take_while_few ts meshes e = rw (take_while-cons has_few ts meshes, e) refl

-- of closed meshes, those before the first large one are balanced
pub closed_are_balanced : (meshes : List (List Tri)) → All IsClosedMesh meshes → All IsBalanced (take_while has_few meshes)
closed_are_balanced [] h = All-nil IsBalanced
closed_are_balanced (ts ∷ meshes) h =
    let first = All-head IsClosedMesh ts meshes h in
    let e = take_while_few ts meshes (small ts first.few) in
    subst (All IsBalanced) (sym e) (All-cons IsBalanced ts (take_while has_few meshes) first.balanced
    (closed_are_balanced meshes (All-tail IsClosedMesh ts meshes h)))

-- ---- a surface with too many triangles
-- if the surfaces before it are closed meshes, all before the first large one are balanced
pub balanced_before : (g : Grid) (m k : ℕ) (ss : List Surface) (s : Surface) → slice_get ss k ≡ Some s →
    All IsClosedMesh (meshes_on g m (take k ss)) → 262144 < length (images_on g 0 s) →
    All IsBalanced (take_while has_few (meshes_on g m ss))
balanced_before g m k [] s f h l = cc
balanced_before g m zero (t ∷ ts) s f h l =
    let same : s ≡ t = cc in
    let n = length-images_on g m 0 t in
    let k = ap (λ (u : Surface). length (images_on g 0 u)) same in
    let e : take_while has_few (meshes_on g m (t ∷ ts)) ≡ [] =
    rw (
      take_while-cons has_few (images_on g m t) (meshes_on g (m + 1) ts),
      large (images_on g m t) (omega (arith, l, n, k)),
    ) refl in
    subst (All IsBalanced) (sym e) (All-nil IsBalanced)
balanced_before g m (suc k) (t ∷ ts) s f h l =
    let first = All-head IsClosedMesh (images_on g m t) (meshes_on g (m + 1) (take k ts)) h in
    let rest = balanced_before g (m + 1) k ts s f (All-tail IsClosedMesh (images_on g m t) (meshes_on g (m + 1) (take k ts)) h) l in
    let e = take_while_few (images_on g m t) (meshes_on g (m + 1) ts) (small (images_on g m t) first.few) in
    subst (All IsBalanced) (sym e) (All-cons IsBalanced (images_on g m t) (take_while has_few (meshes_on g (m + 1) ts)) first.balanced rest)

-- its triangles are among all
pub images_are_among : (g : Grid) (m k : ℕ) (ss : List Surface) (s : Surface) → slice_get ss k ≡ Some s →
    length (images_on g 0 s) ≤ length (flat_map (λ ts. ts) (meshes_on g m ss))
images_are_among g m k [] s f = cc
images_are_among g m zero (t ∷ ts) s f =
    let same : s ≡ t = cc in
    let n = length-images_on g m 0 t in
    let k = ap (λ (u : Surface). length (images_on g 0 u)) same in
    let a = ap length (flat_map-cons (λ us. us) (images_on g m t) (meshes_on g (m + 1) ts)) in
    let b = length-append (images_on g m t) (flat_map (λ us. us) (meshes_on g (m + 1) ts)) in
    omega (arith, n, k, a, b)
images_are_among g m (suc k) (t ∷ ts) s f =
    let r = images_are_among g (m + 1) k ts s f in
    let a = ap length (flat_map-cons (λ us. us) (images_on g m t) (meshes_on g (m + 1) ts)) in
    let b = length-append (images_on g m t) (flat_map (λ us. us) (meshes_on g (m + 1) ts)) in
    omega (arith, r, a, b)

-- ---- the surface at an index
pub surface_at : (ss : List Surface) (i : ℕ) (s : Surface) → i < length ss → s ≡ get_or ss i s → slice_get ss i ≡ Some s
surface_at ss i s l e = slice_get-get_or ss i s l ∙ ap (λ (t : Surface). Some t) (sym e)

-- the parts with that of one surface more
pub parts_more : (g : Grid) (ss : List Surface) (i : ℕ) (s : Surface) (before after : List Closed) (part : Closed) →
    i < length ss → s ≡ get_or ss i s → map (λ part. part.tris) before ≡ meshes_on g 1 (take i ss) →
    after ≡ before ++ part ∷ [] → part.tris ≡ images_on g (i + 1) s →
    map (λ part. part.tris) after ≡ meshes_on g 1 (take (i + 1) ss)
parts_more g ss i s before after part l e h p q =
    ap (map (λ (part : Closed). part.tris)) p ∙ map-append (λ part. part.tris) before (part ∷ [])
    ∙ (λ k. h k ++ (q ∙ ap (images_on g (i + 1)) e) k ∷ []) ∙ sym (meshes_more g ss i s l)

-- the counts with those of one surface more
pub counts_more : (g : Grid) (ss : List Surface) (i : ℕ) (s : Surface) (before after : List Counts) (counts : Counts) →
    i < length ss → s ≡ get_or ss i s → before ≡ map (counts_on g) (take i ss) → after ≡ before ++ counts ∷ [] →
    counts ≡ counts_on g s → after ≡ map (counts_on g) (take (i + 1) ss)
counts_more g ss i s before after counts l e h p q =
    p ∙ (λ k. h k ++ (q ∙ ap (counts_on g) e) k ∷ [])
    ∙ sym (ap (map (counts_on g)) (take_more ss i s l) ∙ map-append (counts_on g) (take i ss) (get_or ss i s ∷ []))

-- ---- an open surface
-- it is the first, if those before it are closed meshes
pub first_open_at : (g : Grid) (ss : List Surface) (i : ℕ) (s : Surface) (o : Open) → slice_get ss i ≡ Some s →
    All IsClosedMesh (meshes_on g 1 (take i ss)) → o.file ≡ i → IsOpenMesh (images_on g (i + 1) s) (places_on g s) o →
    IsFirstOpen g ss o
first_open_at g ss i s o f b e h = record {
  surface = s;
  found = ap (slice_get ss) e ∙ f;
  is_open = subst (λ (k : ℕ). IsOpenMesh (images_on g (k + 1) s) (places_on g s) o) (sym e) h;
  before = subst (λ (k : ℕ). All IsClosedMesh (meshes_on g 1 (take k ss))) (sym e) b;
}

-- ---- all meshes together
-- the triangles of the parts are those of all surfaces
pub joined_images : (g : Grid) (ss : List Surface) (parts : List Closed) →
    map (λ part. part.tris) parts ≡ meshes_on g 1 ss → triangles_of parts ≡ images_of g ss
joined_images g ss parts e =
    sym (flat_map-map (λ ts. ts) (λ part. part.tris) parts) ∙ ap (flat_map (λ ts. ts)) e

-- the parts have the numbers from m on
pub parts_are_numbered : (g : Grid) (m : ℕ) (ss : List Surface) (parts : List Closed) → map (λ part. part.tris) parts ≡ meshes_on g m ss → AreNumbered m parts
parts_are_numbered g m ss [] e = tt
parts_are_numbered g m [] (part ∷ parts) e = cc
parts_are_numbered g m (s ∷ ss) (part ∷ parts) e =
    let first : part.tris ≡ images_on g m s = cc in
    let rest : map (λ part. part.tris) parts ≡ meshes_on g (m + 1) ss = cc in
    (subst (All (λ t. t.mesh ≡ m)) (sym first) (images_of_mesh (corner_at g s.vertices.items) m s.facets.items), parts_are_numbered g (m + 1) ss parts rest)

-- there are as many parts as surfaces
pub parts_are_as_many : (g : Grid) (ss : List Surface) (parts : List Closed) → map (λ part. part.tris) parts ≡ meshes_on g 1 ss → length parts ≡ length ss
parts_are_as_many g ss parts e =
    sym (length-map parts (λ part. part.tris)) ∙ ap length e ∙ length-meshes_on g 1 ss
