-- The triangles of all meshes
use Rattle.std.specs.Prelude.{◌≡◌, ℕ, ◌+◌, ◌<◌, List, [], ◌∷◌, All, length, flat_map, ⊤}
use Rattle.ember_model.specs.declared.tri.Tri.{Tri}
use Rattle.ember_mesh.specs.declared.states.Closed.{Closed}
use Rattle.ember_mesh.specs.declared.fault.JoinFault.{JoinFault}
use Rattle.ember_mesh.specs.declared.fault.JoinFault.TheVariants.{TooManyTriangles, OutOfMemory}

-- the triangles of all meshes, mesh after mesh
abbrev pub triangles_of : List Closed → List Tri
triangles_of parts = flat_map (λ part. part.tris) parts

-- the triangles of the first mesh have the number m, those of the next one m + 1, and so on
abbrev pub AreNumbered : ℕ → List Closed → Type 0
AreNumbered m [] = ⊤
AreNumbered m (part ∷ parts) = All (λ t. t.mesh ≡ m) part.tris × AreNumbered (m + 1) parts

-- there are more than 262,144 triangles, and the fault has their number; or out-of-memory
abbrev pub IsJoinFault : List Closed → JoinFault → Type 0
IsJoinFault parts (TooManyTriangles count) = (count ≡ length (triangles_of parts)) × (262144 < count)
IsJoinFault parts OutOfMemory = ⊤
