-- Why a mesh in arrays has no surface
use Rattle.std.specs.Prelude.{◌≡◌, ⊤, ℕ, ◌+◌, ◌<◌, List, All, IsSome, None, Some, length, slice_get, take}
use Rattle.mesh_ply.specs.declared.fault.PlyFault.{PlyFault}
use Rattle.mesh_ply.specs.declared.fault.PlyFault.TheVariants.{NoSuchVertex, NotFinite}
use Rattle.mesh_ply.specs.declared.fault.PlyFault.TheVariants.{OutOfMemory, TooLarge}
use Rattle.mesh_read.specs.Surface.Flaws.{flaw_in}
use Rattle.mesh_read.specs.Surface.Surfaces.{Content}
use Rattle.mesh_read.specs.declared.surface.flaw.Flaw.{Flaw}
use Rattle.mesh_read.specs.declared.surface.flaw.Flaw.TheVariants as flaw
use Rattle.mesh_arrays.specs.Arrays.{IsContentOf, point_of_bits}
use Rattle.mesh_arrays.specs.declared.mesh.ArrayMesh.{ArrayMesh}

-- ---- vertices
-- the vertex with this number, from 1, is the first with a coordinate that is infinite or NaN
pub record IsFirstNotFinite (vertices : List (List ℕ)) (number : ℕ) : Type 0 where
  pub index : ℕ
  pub number_is : number ≡ index + 1
  pub bits : List ℕ
  pub found : slice_get vertices index ≡ Some bits
  pub not_finite : point_of_bits bits ≡ None
  pub before : All (λ bits. IsSome (point_of_bits bits)) (take index vertices)

-- why vertices aren't all finite
abbrev pub IsVertexFault : List (List ℕ) → PlyFault → Type 0
IsVertexFault vertices (NotFinite number) = IsFirstNotFinite vertices number
IsVertexFault vertices OutOfMemory = ⊤
IsVertexFault vertices fault = ⊥

-- ---- triangles
-- each corner is one of so many vertices
abbrev pub AreWithin : ℕ → List ℕ → Type 0
AreWithin count corners = All (λ corner. corner < count) corners

-- the triangle with this number, from 1, is the first with a corner that is none of so many vertices
pub record IsFirstOutside (triangles : List (List ℕ)) (count number : ℕ) : Type 0 where
  pub index : ℕ
  pub number_is : number ≡ index + 1
  pub corners : List ℕ
  pub found : slice_get triangles index ≡ Some corners
  pub outside : ¬ (AreWithin count corners)
  pub before : All (AreWithin count) (take index triangles)

-- why not all corners are vertices
abbrev pub IsTriangleFault : List (List ℕ) → ℕ → PlyFault → Type 0
IsTriangleFault triangles count (NoSuchVertex number) = IsFirstOutside triangles count number
IsTriangleFault triangles count OutOfMemory = ⊤
IsTriangleFault triangles count fault = ⊥

-- ---- meshes
-- all coordinates are finite, but a corner is no vertex
pub record IsFirstLost (mesh : ArrayMesh) (number : ℕ) : Type 0 where
  pub finite : All (λ bits. IsSome (point_of_bits bits)) mesh.vertices.now
  pub first : IsFirstOutside mesh.triangles.now (length mesh.vertices.now) number

-- the mesh says what no mesh does
pub record HasFlaw (mesh : ArrayMesh) (flaw : Flaw) : Type 0 where
  pub content : Content
  pub is_content : IsContentOf mesh content
  pub within : All (AreWithin (length mesh.vertices.now)) mesh.triangles.now
  pub has : flaw_in content ≡ Some flaw

-- why a mesh has no surface; of want of memory nothing is said
abbrev pub IsMeshFault : ArrayMesh → PlyFault → Type 0
IsMeshFault mesh (NotFinite number) = IsFirstNotFinite mesh.vertices.now number
IsMeshFault mesh (NoSuchVertex number) = IsFirstLost mesh number
IsMeshFault mesh (TooLarge number) = HasFlaw mesh (flaw.TooLarge number)
IsMeshFault mesh OutOfMemory = ⊤
IsMeshFault mesh fault = ⊥
