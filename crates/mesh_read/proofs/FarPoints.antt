-- Coordinates of vertices and of their points
use Rattle.std.proofs.Common.{◌≡◌, ℕ, Bool, List, [], ◌∷◌, Option, None, Some, refl, ap, ap₂, ◌∙◌, map}
use Rattle.std.specs.Prelude.{◌||◌, if◌then◌else◌, slice_get}
use Rattle.std.specs.List.{list_any, find}
use Rattle.std.specs.Option.{option_map}
use Rattle.std.proofs.lemmas.Option.{slice_get-map}
use Rattle.mesh_read.specs.declared.surface.surface.Vertex.{Vertex}
use Rattle.mesh_read.specs.declared.surface.surface.Facet.{Facet}
use Rattle.mesh_read.specs.declared.surface.surface.Surface.{Surface}
use Rattle.mesh_read.specs.Surface.Surfaces.{point_of, content_of, is_too_large, is_corner_too_large, is_facet_too_large, is_far_point, is_far, first_far}

far_vertex : (v : Option Vertex) → is_far_point (option_map point_of v) ≡ is_too_large v
far_vertex None = refl
far_vertex (Some v) = refl

far_corner : (vs : List Vertex) (corner : ℕ) → is_far_point (slice_get (map point_of vs) corner) ≡ is_corner_too_large vs corner
far_corner vs corner = ap is_far_point (slice_get-map point_of vs corner) ∙ far_vertex (slice_get vs corner)

far_corners : (vs : List Vertex) (corners : List ℕ) →
    list_any (λ corner. is_far_point (slice_get (map point_of vs) corner)) corners ≡ list_any (is_corner_too_large vs)
    corners
far_corners vs [] = refl
far_corners vs (corner ∷ corners) = ap₂ (λ a b. a || b) (far_corner vs corner) (far_corners vs corners)

far_found : (vs : List Vertex) (fs : List Facet) → find (is_far (map point_of vs)) fs ≡ find (is_facet_too_large vs) fs
far_found vs [] = refl
far_found vs (f ∷ fs) = ap₂ (λ (a : Bool) (b : Option Facet). if a then Some f else b) (far_corners vs f.corners) (far_found vs fs)

-- the first triangle that lies too far out, by what the file says
pub far_by_content : (s : Surface) → first_far (content_of s) ≡ option_map (λ f. f.place) (find (is_facet_too_large s.vertices.items) s.facets.items)
far_by_content s = ap (λ o. option_map (λ f. f.place) o) (far_found s.vertices.items s.facets.items)
