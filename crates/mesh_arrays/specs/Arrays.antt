-- Meshes in arrays: what they hold
use Rattle.std.specs.Prelude.{◌≡◌, ◌≤◌, ℕ, ◌+◌, ◌*◌, List, [], ◌∷◌, length, map, Option, None, Some, slice_index}
use Rattle.mesh_number.specs.Number.Floats.{binary64_value}
use Rattle.mesh_read.specs.Stl.Binary.{finite_point}
use Rattle.mesh_read.specs.Surface.Surfaces.{Content, IsSurface, Point, content_of, first_far}
use Rattle.mesh_read.specs.declared.surface.surface.Facet.{Facet}
use Rattle.mesh_read.specs.declared.surface.surface.Surface.{Surface}
use Rattle.mesh_arrays.specs.declared.mesh.ArrayMesh.{ArrayMesh}

-- both arrays together have at most 2^28 bytes
abbrev pub IsShort : ArrayMesh → Type 0
IsShort mesh = 24 * length mesh.vertices.now + 12 * length mesh.triangles.now ≤ 268435456

-- ---- vertices
-- the point whose coordinates are the doubles with these bits; none if one of them is infinite or NaN
abbrev pub point_of_bits : List ℕ → Option Point
point_of_bits bits = finite_point
    (binary64_value (slice_index bits 0)) (binary64_value (slice_index bits 1)) (binary64_value (slice_index bits 2))

-- the points of the vertices, in order
abbrev pub ArePointsOf : List (List ℕ) → List Point → Type 0
ArePointsOf vertices points = map point_of_bits vertices ≡ map (λ point. Some point) points

-- ---- triangles
-- with their numbers from this one on as their places
abbrev pub facets_from : ℕ → List (List ℕ) → List Facet
facets_from place [] = []
facets_from place (corners ∷ more) = record { corners = corners; place = place } ∷ facets_from (place + 1) more

-- ---- meshes
-- what a mesh says: its points and its triangles, numbered from 1
pub record IsContentOf (mesh : ArrayMesh) (content : Content) : Type 0 where
  pub points : ArePointsOf mesh.vertices.now content.points
  pub facets : content.facets ≡ facets_from 1 mesh.triangles.now

-- the surface of a mesh: each corner is a vertex, and no triangle is too far out
pub record IsSurfaceOf (mesh : ArrayMesh) (surface : Surface) : Type 0 where
  pub content : IsContentOf mesh (content_of surface)
  pub within : IsSurface surface
  pub near : first_far (content_of surface) ≡ None
