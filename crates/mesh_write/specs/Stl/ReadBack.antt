-- What a reader makes of the bytes of a binary STL
use Rattle.std.specs.Prelude.{◌≡◌, ℕ, zero, suc, ◌+◌, ◌*◌, true, List, [], ◌∷◌, ◌++◌, length, Some, Ok, ⊤}
use Rattle.mesh_number.specs.Number.Floats.{binary32_value}
use Rattle.mesh_read.specs.declared.surface.surface.Facet.{Facet}
use Rattle.mesh_read.specs.Surface.Surfaces.{Point}
use Rattle.mesh_read.specs.Stl.ReadStl.{read_stl_of, checked}
use Rattle.mesh_write.specs.declared.stl.triangle.FloatPoint.{FloatPoint}
use Rattle.mesh_write.specs.declared.stl.triangle.FloatTriangle.{FloatTriangle}

-- the three floats are finite, and these are their values
pub record IsPoint (p : FloatPoint) (q : Point) : Type 0 where
  pub x : binary32_value p.x ≡ Some q.x
  pub y : binary32_value p.y ≡ Some q.y
  pub z : binary32_value p.z ≡ Some q.z

-- the points are the corners of the triangles, in order
abbrev pub AreCorners : List FloatTriangle → List Point → Type 0
AreCorners [] [] = ⊤
AreCorners (t ∷ ts) (p ∷ q ∷ r ∷ points) = IsPoint t.a p × IsPoint t.b q × IsPoint t.c r × AreCorners ts points
AreCorners ts points = ⊥

-- triangles of three points each, whose places are their numbers from 1
abbrev pub facets_of : ℕ → List Facet
facets_of zero = []
facets_of (suc k) =
    facets_of k ++ (record { corners = 3 * k ∷ (3 * k + 1) ∷ (3 * k + 2) ∷ []; place = k + 1 }) ∷ []

-- reading the bytes gives the triangles with these corners, in order, or refuses them for what no mesh has: no
-- triangle, or a coordinate of 10^15 or more
abbrev pub IsReadBack : List FloatTriangle → List ℕ → Type 0
IsReadBack ts bytes = (points : List Point) → AreCorners ts points →
    read_stl_of bytes ≡ checked true (Ok (record { points = points; facets = facets_of (length ts) }))
