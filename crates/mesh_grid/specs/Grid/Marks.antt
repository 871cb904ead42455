-- Which vertices are corners of triangles
use Rattle.std.specs.Prelude.{◌≡◌, ◌++◌, ℕ, ◌<◌, Bool, true, false, List, length, slice_index_or, flat_map, All}
use Rattle.std.specs.List.{Contains}
use Rattle.mesh_read.specs.declared.surface.surface.Facet.{Facet}
use Rattle.mesh_read.specs.declared.surface.surface.Surface.{Surface}

-- the corners of all triangles, by their index
abbrev pub indices_in : List Facet → List ℕ
indices_in fs = flat_map (λ f. f.corners) fs

-- a triangle has three of them
abbrev pub HasThreeCorners : Facet → Type 0
HasThreeCorners f = length f.corners ≡ 3

-- a mark for each of so many vertices, which tells whether it is one of these corners
pub record AreMarks (vertices : ℕ) (corners : List ℕ) (marks : List Bool) : Type 0 where
  pub many : length marks ≡ vertices
  pub marked : All (λ corner. corner < vertices → slice_index_or marks corner false ≡ true) corners
  pub only : (index : ℕ) → slice_index_or marks index false ≡ true → Contains corners index

-- a mark for each vertex of the surface, which tells whether it is a corner of a triangle
abbrev pub AreMarksOf : Surface → List Bool → Type 0
AreMarksOf s marks = AreMarks (length s.vertices.items) (indices_in s.facets.items) marks

-- marks with these corners more
pub record HasMarked (old : List Bool) (corners : List ℕ) (new : List Bool) : Type 0 where
  pub after : (vertices : ℕ) (before : List ℕ) → AreMarks vertices before old →
      AreMarks vertices (before ++ corners) new
