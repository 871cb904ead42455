-- The coordinates of vertices along each axis
use Rattle.std.specs.Prelude.{◌≡◌, ◌++◌, Bool, if◌then◌else◌, List, [], ◌∷◌, map, All}
use Rattle.std.specs.List.{Contains}
use Rattle.mesh_read.specs.declared.surface.surface.Vertex.{Vertex}
use Rattle.mesh_grid.specs.declared.grid.coordinates.CornerLists.{CornerLists}

-- the lists are the coordinates of these vertices
pub record IsOf (lists : CornerLists) (vertices : List Vertex) : Type 0 where
  pub x : lists.x.items ≡ map (λ v. v.x) vertices
  pub y : lists.y.items ≡ map (λ v. v.y) vertices
  pub z : lists.z.items ≡ map (λ v. v.z) vertices

-- lists with these vertices more
pub record HasAppended (old : CornerLists) (vertices : List Vertex) (new : CornerLists) : Type 0 where
  pub after : (before : List Vertex) → IsOf old before → IsOf new (before ++ vertices)

-- the vertices that have a mark
abbrev pub marked : List Bool → List Vertex → List Vertex
marked [] vertices = []
marked (m ∷ marks) [] = []
marked (m ∷ marks) (v ∷ vertices) = if m then v ∷ marked marks vertices else marked marks vertices

-- ---- with the same entries
-- each entry of one list is one of the other
pub record HaveSameEntries {U : Type 0} (xs ys : List U) : Type 0 where
  pub there : All (Contains ys) xs
  pub back : All (Contains xs) ys

-- the lists are the coordinates of these corners, in whatever order and however often
pub record HasEntries (lists : CornerLists) (corners : List Vertex) : Type 0 where
  pub vertices : List Vertex
  pub coordinates : IsOf lists vertices
  pub same : HaveSameEntries vertices corners

-- lists with these corners more
pub record HasAdded (old : CornerLists) (corners : List Vertex) (new : CornerLists) : Type 0 where
  pub after : (before : List Vertex) → HasEntries old before → HasEntries new (before ++ corners)
