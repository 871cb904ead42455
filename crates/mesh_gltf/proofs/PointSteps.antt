-- The points of an accessor, one after another
use Rattle.std.proofs.Common.{◌≡◌, ℕ, zero, suc, ◌<◌, ◌≤◌, ◌+◌, ◌-◌, ◌*◌, List, [], ◌∷◌, ◌++◌, length, map, refl, sym, ap, ◌∙◌, arith}
use Rattle.std.proofs.Common.{Option, None, Some, Ok}
use Rattle.std.proofs.lemmas.List.{map-append}
use Rattle.mesh_read.specs.declared.surface.surface.Vertex.{Vertex}
use Rattle.mesh_read.specs.Surface.Surfaces.{Point, point_of}
use Rattle.mesh_read.specs.Stl.Binary.{point_at}
use Rattle.mesh_gltf.specs.declared.fault.GltfFault.TheVariants.{NotFinite}
use Rattle.mesh_gltf.specs.Heads.{with_head}
use Rattle.mesh_gltf.specs.Primitives.{or_fault, Elements, points_from, points_in, AreAdded}
use Rattle.mesh_gltf.proofs.Parts.{behind, element_added, all_read, read_behind}

-- one point more
pub points_more : (all : Option (List Point)) (e : Elements) (count element : ℕ) (now new : List Vertex) (v : Vertex) →
    all ≡ behind (map point_of now) (points_from e element (count - element)) → element < count →
    Some (point_of v) ≡ point_at e.bytes (e.window.start + e.window.stride * element) → new ≡ now ++ v ∷ [] →
    all ≡ behind (map point_of new) (points_from e (element + 1) (count - (element + 1)))
points_more all e count element now new v before few is add =
    let left : count - element ≡ suc (count - (element + 1)) = omega arith in
    let added : map point_of new ≡ map point_of now ++ point_of v ∷ [] =
    ap (map point_of) add ∙ map-append point_of now (v ∷ []) in
    before
    ∙ ap (λ (n : ℕ). behind (map point_of now) (points_from e element n)) left
    ∙ ap (λ (o : Option Point). behind (map point_of now) (with_head o (points_from e (element + 1) (count - (element + 1)))))
    (sym is)
    ∙ element_added (map point_of now) (map point_of new) (point_of v)
    (points_from e (element + 1) (count - (element + 1))) added

-- as many points are read as the window has elements
counted_more : (left : ℕ) (ps : List Point) (p : Option Point) (more : Option (List Point)) →
    ((qs : List Point) → more ≡ Some qs → length qs ≡ left) → with_head p more ≡ Some ps → length ps ≡ suc left
counted_more left ps None more behind is = cc
counted_more left ps (Some p) None behind is = cc
counted_more left ps (Some p) (Some more) behind is =
    let front : p ∷ more ≡ ps = cc in
    ap length (sym front) ∙ ap (λ (n : ℕ). suc n) (behind more refl)

points_counted : (e : Elements) (index count : ℕ) (ps : List Point) → points_from e index count ≡ Some ps → length ps ≡ count
points_counted e index zero ps is =
    let none : [] ≡ ps = cc in
    ap length (sym none)
points_counted e index (suc left) ps is =
    counted_more left ps (point_at e.bytes (e.window.start + e.window.stride * index)) (points_from e (index + 1) left)
    (λ qs. points_counted e (index + 1) left qs) is

as_read : (index : ℕ) (o : Option (List Point)) (ps : List Point) → o ≡ Some ps → or_fault (NotFinite index) o ≡ Ok ps
as_read index o ps is = ap (or_fault (NotFinite index)) is

pub points_read : (e : Elements) (element index : ℕ) (old now : List Vertex) →
    behind (map point_of old) (points_from e 0 e.window.count)
    ≡ behind (map point_of now) (points_from e element (e.window.count - element)) → e.window.count ≤ element →
    AreAdded index e (map point_of old) (map point_of now)
unfolding points_in
points_read e element index old now before full =
    let left : e.window.count - element ≡ 0 = omega arith in
    let end : behind (map point_of old) (points_from e 0 e.window.count) ≡ Some (map point_of now) =
    all_read (behind (map point_of old) (points_from e 0 e.window.count)) (map point_of now)
    (before ∙ ap (λ (n : ℕ). behind (map point_of now) (points_from e element n)) left) in
    let read = read_behind (map point_of old) (map point_of now) (points_from e 0 e.window.count) end in
    record {
      points = read.0;
      read = as_read index (points_from e 0 e.window.count) read.0 read.1;
      behind_old = read.2;
      counted = points_counted e 0 e.window.count read.0 read.1;
    }
