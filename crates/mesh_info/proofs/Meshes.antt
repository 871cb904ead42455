-- The mesh of one triangle more
use Rattle.std.proofs.Common.{◌≡◌, ◌<◌, ◌+◌, ◌++◌, ◌∷◌, [], ℕ, List, length, map, take, get_or, sym, ap, subst, ◌∙◌}
use Rattle.std.proofs.lemmas.List.{map_more}
use Rattle.mesh_read.specs.declared.surface.surface.Facet.{Facet}
use Rattle.mesh_write.specs.declared.vertices.point.DecimalPoint.{DecimalPoint}
use Rattle.mesh_write.specs.declared.vertices.point.DecimalTriangle.{DecimalTriangle}
use Rattle.mesh_write.specs.declared.vertices.mesh.IndexedMesh.{IndexedMesh}
use Rattle.mesh_write.specs.Vertices.Vertices.{IsMeshOf}
use Rattle.mesh_info.specs.Info.Corners.{triangle_over}

pub mesh_more : (places : List DecimalPoint) (fs : List Facet) (i : ℕ) (f : Facet) (t : DecimalTriangle)
    (mesh : IndexedMesh) → i < length fs → f ≡ get_or fs i f → t ≡ triangle_over places f
    → IsMeshOf (map (triangle_over places) (take i fs) ++ t ∷ []) mesh → IsMeshOf (map (triangle_over places) (take (i + 1) fs)) mesh
mesh_more places fs i f t mesh l at is h =
    let before = map (triangle_over places) (take i fs) in
    let all : before ++ t ∷ [] ≡ map (triangle_over places) (take (i + 1) fs) =
    ap (λ (u : DecimalTriangle). before ++ u ∷ []) (is ∙ ap (triangle_over places) at) ∙ sym (map_more (triangle_over places) fs i f l) in
    subst (λ (ts : List DecimalTriangle). IsMeshOf ts mesh) all h
