-- From which triangle of a scene each triangle of a mesh comes
use Rattle.std.specs.Prelude.{◌≡◌, ◌≢◌, ◌↔◌, ◌<◌, ℕ, IsTrue, List, count_by, All, slice_get}
use Rattle.std.specs.Prelude.{Option, None, Some, is_some, MatchOption}
use Rattle.std.specs.List.{AllZip}
use Rattle.ember_model.specs.declared.plane.Plane.{Plane}
use Rattle.ember_model.specs.declared.tri.Tri.{Tri}
use Rattle.mesh_point.specs.declared.space_point.SpacePoint.{SpacePoint}
use Rattle.mesh_certificate.specs.declared.certificate.triangle.Triangle.{Triangle}
use Rattle.mesh_sources.specs.declared.facet.Facet.{Facet}
use Rattle.mesh_sources.specs.declared.source.Source.{Source}
use Rattle.mesh_sources.specs.Places.{is_turned, IsPlace}

-- ---- facets: triangles of a mesh with what their numbers lead to
abbrev pub with_third : Plane → SpacePoint → SpacePoint → Option SpacePoint → Option Facet
with_third p u v None = None
with_third p u v (Some w) = Some (record { plane = p; corners = record { u = u; v = v; w = w } })

abbrev pub with_second : Plane → SpacePoint → Option SpacePoint → Option SpacePoint → Option Facet
with_second p u None w = None
with_second p u (Some v) w = with_third p u v w

abbrev pub with_first : Plane → Option SpacePoint → Option SpacePoint → Option SpacePoint → Option Facet
with_first p None v w = None
with_first p (Some u) v w = with_second p u v w

abbrev pub with_plane : Option Plane → Option SpacePoint → Option SpacePoint → Option SpacePoint → Option Facet
with_plane None u v w = None
with_plane (Some p) u v w = with_first p u v w

-- the plane of the triangle's first edge and the starts of its edges, if the tables have them
abbrev pub facet_of : List SpacePoint → List Plane → Triangle → Option Facet
facet_of points planes t =
    with_plane (slice_get planes t.first.plane) (slice_get points t.first.start) (slice_get points t.second.start)
    (slice_get points t.third.start)

-- ---- sources
-- a triangle of the scene that is a place of the facet and has another number
pub record IsAnother (scene : List Tri) (f : Facet) (number : ℕ) : Type 0 where
  pub index : ℕ
  pub tri : Tri
  pub here : slice_get scene index ≡ Some tri
  pub place : IsPlace f tri
  pub other : index ≢ number

-- the source is the first triangle of the scene that is a place of the facet. It is turned if it faces the back of the
-- facet's plane, and several if there is another place
pub record IsSource (scene : List Tri) (f : Facet) (s : Source) : Type 0 where
  pub tri : Tri
  pub here : slice_get scene s.triangle ≡ Some tri
  pub place : IsPlace f tri
  pub first : (i : ℕ) (t : Tri) → i < s.triangle → slice_get scene i ≡ Some t → IsPlace f t → ⊥
  pub turned : s.turned ≡ is_turned f.plane tri
  pub several : IsTrue s.several ↔ IsAnother scene f s.triangle

-- what is said of a facet: its source, or that no triangle of the scene is its place
abbrev pub IsSourceOf : List Tri → Facet → Option Source → Type 0
IsSourceOf scene f source = MatchOption source (All (λ t. IsPlace f t → ⊥) scene) (λ s. IsSource scene f s)

-- and of a triangle of a mesh, which has no source if a number of it leads nowhere
abbrev pub IsTriangleSource : List Tri → List SpacePoint → List Plane → Triangle → Option Source → Type 0
IsTriangleSource scene points planes t source =
    MatchOption (facet_of points planes t) (source ≡ None) (λ f. IsSourceOf scene f source)

-- the sources of the triangles, in their order
abbrev pub EachSource : List Tri → List SpacePoint → List Plane → List Triangle → List (Option Source) → Type 0
EachSource scene points planes triangles sources = AllZip (IsTriangleSource scene points planes) triangles sources

-- so many of the triangles have a source
pub record IsSourceCount (scene : List Tri) (points : List SpacePoint) (planes : List Plane) (triangles : List Triangle)
    (count : ℕ) : Type 0 where
  pub sources : List (Option Source)
  pub each : EachSource scene points planes triangles sources
  pub count_is : count ≡ count_by is_some sources
