-- Why meshes in arrays have no solid
use Rattle.std.specs.Prelude.{◌≡◌, ◌≢◌, ⊤, ℕ, ◌≤◌, ◌^◌, List, Option, Some, length, slice_get, take}
use Rattle.std.specs.List.{Any}
use Rattle.ember_expr.specs.Formula.{Formula}
use Rattle.mesh_arrays.specs.Faults.{IsMeshFault}
use Rattle.mesh_arrays.specs.Indices.{HasLongIndex}
use Rattle.mesh_arrays.specs.declared.fault.IndexFault.{IndexFault}
use Rattle.mesh_arrays.specs.declared.fault.IndexFault.TheVariants as index_fault
use Rattle.mesh_arrays.specs.declared.mesh.ArrayMesh.{ArrayMesh}
use Rattle.mesh_boolean.specs.Effects.{decimals_of}
use Rattle.mesh_boolean.specs.Splits.{AreDecimalsOver}
use Rattle.mesh_boolean.specs.declared.fault.BooleanFault.{BooleanFault}
use Rattle.mesh_boolean.specs.declared.fault.BooleanFault.TheVariants.{File, Image, Scene, Solid, TooFar}
use Rattle.mesh_boolean.specs.declared.fault.BooleanFault.TheVariants.{TooManyTriangles, OutOfMemory}
use Rattle.mesh_boolean.specs.declared.split.SplitDecimals.{SplitDecimals}
use Rattle.mesh_boolean.specs.declared.writing_fault.WritingFault.{WritingFault}
use Rattle.mesh_boolean.specs.declared.writing_fault.WritingFault.TheVariants as writing_fault
use Rattle.mesh_file.specs.declared.file.fault.FileFault.{FileFault}
use Rattle.mesh_file.specs.declared.file.fault.FileFault.TheVariants as file_fault
use Rattle.mesh_grid.specs.declared.grid.choice.Wanted.{Wanted}
use Rattle.mesh_grid.specs.declared.grid.grid.Grid.{Grid}
use Rattle.mesh_ply.specs.declared.fault.PlyFault.{PlyFault}
use Rattle.mesh_ply.specs.declared.fault.PlyFault.TheVariants as ply_fault
use Rattle.mesh_read.specs.declared.surface.surface.Surface.{Surface}
use Rattle.mesh_scene.specs.Scene.Faults.{IsSceneFault}
use Rattle.mesh_scene.specs.Scene.Images.{images_of}
use Rattle.mesh_scene.specs.declared.scene.fault.SceneFault.{SceneFault}
use Rattle.mesh_scene.specs.declared.scene.fault.SceneFault.TheVariants as scene_fault
use Rattle.mesh_solid.specs.Mesh.Faults.{IsSolidFault}
use Rattle.mesh_solid.specs.Mesh.Meshes.{IsSolidMesh}
use Rattle.mesh_solid.specs.declared.mesh.fault.SolidFault.{SolidFault}
use Rattle.mesh_solid.specs.declared.mesh.fault.SolidFault.TheVariants as solid_fault
use Rattle.mesh_solid.specs.declared.mesh.mesh.SolidMesh.{SolidMesh}
use Rattle.mesh_written.specs.Decimals.{IsFarPoint}
use Rattle.ember_arrays.specs.Meshes.{ArePlaced, AreSurfacesOf}

-- ---- the faults of the steps, where want of memory is one
abbrev pub of_mesh_fault : ℕ → PlyFault → BooleanFault
of_mesh_fault index ply_fault.OutOfMemory = OutOfMemory
of_mesh_fault index fault = File index (file_fault.Ply fault)

abbrev pub of_index_fault : IndexFault → WritingFault
of_index_fault index_fault.TooManyVertices = writing_fault.TooManyTriangles
of_index_fault index_fault.OutOfMemory = writing_fault.OutOfMemory

-- ---- meshes
-- the mesh with this index has this fault, which isn't want of memory, and those before it have surfaces
pub record IsFirstRefused (meshes : List ArrayMesh) (index : ℕ) (fault : PlyFault) : Type 0 where
  pub mesh : ArrayMesh
  pub found : slice_get meshes index ≡ Some mesh
  pub has : IsMeshFault mesh fault
  pub of_mesh : fault ≢ ply_fault.OutOfMemory
  pub surfaces : List Surface
  pub before : AreSurfacesOf (take index meshes) surfaces

-- a mesh in arrays has the faults of a PLY alone
abbrev pub IsRefused : List ArrayMesh → ℕ → FileFault → Type 0
IsRefused meshes index (file_fault.Ply fault) = IsFirstRefused meshes index fault
IsRefused meshes index fault = ⊥

-- why not all meshes have surfaces
abbrev pub IsSurfacesFault : List ArrayMesh → BooleanFault → Type 0
IsSurfacesFault meshes (File index fault) = IsRefused meshes index fault
IsSurfacesFault meshes OutOfMemory = ⊤
IsSurfacesFault meshes fault = ⊥

-- ---- the scene
-- the surfaces of the meshes are no scene, and not for want of memory
pub record AreNoScene (meshes : List ArrayMesh) (wanted : Wanted) (fault : SceneFault) : Type 0 where
  pub surfaces : List Surface
  pub are : AreSurfacesOf meshes surfaces
  pub is_fault : IsSceneFault surfaces wanted fault
  pub of_scene : fault ≢ scene_fault.OutOfMemory

-- why meshes are no scene
abbrev pub IsPlacingFault : List ArrayMesh → Wanted → BooleanFault → Type 0
IsPlacingFault meshes wanted (File index fault) = IsRefused meshes index fault
IsPlacingFault meshes wanted (Scene fault) = AreNoScene meshes wanted fault
IsPlacingFault meshes wanted OutOfMemory = ⊤
IsPlacingFault meshes wanted fault = ⊥

-- ---- the arrays
-- a corner is too far out for a decimal
abbrev pub HasFarCorner : Grid → SolidMesh → Type 0
HasFarCorner grid mesh = Any (IsFarPoint grid.step grid.offset) mesh.corners.items

-- a triangle has a vertex with an index of 2^32 or more
pub record HasLongIndices (digits : Option ℕ) (grid : Grid) (mesh : SolidMesh) : Type 0 where
  pub over : SplitDecimals
  pub are_over : AreDecimalsOver (decimals_of digits grid mesh) over
  pub long : Any HasLongIndex over.triangles.items

-- why a mesh has no arrays
abbrev pub IsArraysFault : Option ℕ → Grid → SolidMesh → WritingFault → Type 0
IsArraysFault digits grid mesh writing_fault.TooFar = HasFarCorner grid mesh
IsArraysFault digits grid mesh writing_fault.TooManyTriangles = HasLongIndices digits grid mesh
IsArraysFault digits grid mesh writing_fault.OutOfMemory = ⊤

-- ---- the solid
-- the surfaces of the meshes are a scene, but its solid has no mesh, and not for want of memory
pub record HasNoMesh (meshes : List ArrayMesh) (formula : Formula) (wanted : Wanted) (fault : SolidFault) : Type 0 where
  pub surfaces : List Surface
  pub grid : Grid
  pub are_placed : ArePlaced meshes wanted surfaces grid
  pub is_fault : IsSolidFault (images_of grid surfaces) formula fault
  pub of_solid : fault ≢ solid_fault.OutOfMemory

-- its solid has a mesh, and the mesh has this fault
pub record HasNoArrays (meshes : List ArrayMesh) (formula : Formula) (wanted : Wanted)
    (IsFault : Grid → SolidMesh → Type 0) : Type 0 where
  pub surfaces : List Surface
  pub grid : Grid
  pub are_placed : ArePlaced meshes wanted surfaces grid
  pub mesh : SolidMesh
  pub is_mesh : IsSolidMesh (images_of grid surfaces) formula mesh
  pub is_fault : IsFault grid mesh

-- ---- all of them
-- the first mesh that has no surface, no scene, no mesh, or a mesh without arrays; or want of memory, of which nothing
-- is said
abbrev pub IsArrayFault : List ArrayMesh → Formula → Wanted → Option ℕ → BooleanFault → Type 0
IsArrayFault meshes formula wanted digits (File index fault) = IsRefused meshes index fault
IsArrayFault meshes formula wanted digits (Image index fault) = ⊥
IsArrayFault meshes formula wanted digits (Scene fault) = AreNoScene meshes wanted fault
IsArrayFault meshes formula wanted digits (Solid fault) = HasNoMesh meshes formula wanted fault
IsArrayFault meshes formula wanted digits TooFar = HasNoArrays meshes formula wanted HasFarCorner
IsArrayFault meshes formula wanted digits TooManyTriangles = HasNoArrays meshes formula wanted (HasLongIndices digits)
IsArrayFault meshes formula wanted digits OutOfMemory = ⊤
