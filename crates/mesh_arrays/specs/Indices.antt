-- Triangles by indices of 32 bits
use Rattle.std.specs.Prelude.{⊤, ◌⊎◌, ℕ, ◌^◌, ◌≤◌, List, [], ◌∷◌}
use Rattle.std.specs.List.{Any}
use Rattle.mesh_write.specs.declared.vertices.point.IndexedTriangle.{IndexedTriangle}
use Rattle.mesh_arrays.specs.declared.fault.IndexFault.{IndexFault}
use Rattle.mesh_arrays.specs.declared.fault.IndexFault.TheVariants.{OutOfMemory, TooManyVertices}

-- the indices of its corners, in order
abbrev pub corners_of : IndexedTriangle → List ℕ
corners_of t = t.a ∷ t.b ∷ t.c ∷ []

-- an index has more than 32 bits
abbrev pub HasLongIndex : IndexedTriangle → Type 0
HasLongIndex t = (2 ^ 32 ≤ t.a) ⊎ ((2 ^ 32 ≤ t.b) ⊎ (2 ^ 32 ≤ t.c))

-- why triangles aren't put into an array; of want of memory nothing is said
abbrev pub IsIndexFault : List IndexedTriangle → IndexFault → Type 0
IsIndexFault triangles TooManyVertices = Any HasLongIndex triangles
IsIndexFault triangles OutOfMemory = ⊤
