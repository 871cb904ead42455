-- The triangles of a mesh among the first of all triangles
use Rattle.std.proofs.Common.{◌≡◌, ◌<◌, ◌+◌, ◌++◌, ◌∷◌, [], ℕ, Bool, true, false, cond, List, length, map, take, get_or, sym, ap, subst, ◌∙◌, append-nil}
use Rattle.std.specs.Prelude.{◌==◌}
use Rattle.std.proofs.lemmas.Bool.{eq-eqb, ne_eqb}
use Rattle.std.proofs.lemmas.List.{map-append}
use Rattle.std.proofs.lemmas.List.Elements.{filter_more}
use Rattle.ember_model.specs.declared.tri.Tri.{Tri}
use Rattle.mesh_write.specs.declared.vertices.point.DecimalTriangle.{DecimalTriangle}
use Rattle.mesh_write.specs.declared.vertices.mesh.IndexedMesh.{IndexedMesh}
use Rattle.mesh_write.specs.Vertices.Vertices.{IsMeshOf}
use Rattle.mesh_scene.specs.SceneFile.Meshes.{triangle_of, of_mesh, triangles_of}

abbrev is_of : ℕ → Tri → Bool
is_of mesh t = t.mesh == mesh

-- one triangle more, if it is of the mesh
of_mesh_more : (mesh : ℕ) (ts : List Tri) (i : ℕ) (t : Tri) (b : Bool) → i < length ts → t ≡ get_or ts i t → is_of mesh t ≡ b
    → of_mesh mesh (take (i + 1) ts) ≡ of_mesh mesh (take i ts) ++ cond b (t ∷ []) []
of_mesh_more mesh ts i t b l at is =
    filter_more (is_of mesh) ts i t l
    ∙ ap (λ (u : Tri). of_mesh mesh (take i ts) ++ cond (is_of mesh u) (u ∷ []) []) (sym at)
    ∙ ap (λ (c : Bool). of_mesh mesh (take i ts) ++ cond c (t ∷ []) []) is

-- the mesh with a triangle more
pub triangle_more : (mesh : ℕ) (ts : List Tri) (i : ℕ) (t : Tri) (u : DecimalTriangle) (m : IndexedMesh) →
    i < length ts → t ≡ get_or ts i t → t.mesh ≡ mesh → u ≡ triangle_of t
    → IsMeshOf (triangles_of mesh (take i ts) ++ u ∷ []) m → IsMeshOf (triangles_of mesh (take (i + 1) ts)) m
triangle_more mesh ts i t u m l at is shown h =
    let before = triangles_of mesh (take i ts) in
    let all : before ++ u ∷ [] ≡ triangles_of mesh (take (i + 1) ts) =
    ap (λ (v : DecimalTriangle). before ++ v ∷ []) shown
    ∙ sym (ap (map triangle_of) (of_mesh_more mesh ts i t true l at (eq-eqb _ _ is)) ∙ map-append triangle_of (of_mesh mesh (take i ts)) (t ∷ [])) in
    subst (λ (us : List DecimalTriangle). IsMeshOf us m) all h

-- a triangle of another mesh is passed over
pub triangle_passed : (mesh : ℕ) (ts : List Tri) (i : ℕ) (t : Tri) (m : IndexedMesh) → i < length ts → t ≡ get_or ts i t → (t.mesh ≡ mesh → ⊥)
    → IsMeshOf (triangles_of mesh (take i ts)) m → IsMeshOf (triangles_of mesh (take (i + 1) ts)) m
triangle_passed mesh ts i t m l at is h =
    let none : triangles_of mesh (take (i + 1) ts) ≡ triangles_of mesh (take i ts) =
    ap (map triangle_of) (of_mesh_more mesh ts i t false l at (ne_eqb _ _ is) ∙ append-nil (of_mesh mesh (take i ts))) in
    subst (λ (us : List DecimalTriangle). IsMeshOf us m) (sym none) h
