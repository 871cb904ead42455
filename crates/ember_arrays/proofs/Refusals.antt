-- The faults of the steps are those of meshes in arrays
use Rattle.std.proofs.Common.{◌≡◌, ℕ, ◌<◌, List, length, take, get_or}
use Rattle.std.specs.declared.option.Option.{Option}
use Rattle.std.proofs.lemmas.Option.{slice_get-get_or}
use Rattle.ember_expr.specs.Formula.{Formula}
use Rattle.mesh_arrays.specs.Faults.{IsMeshFault}
use Rattle.mesh_arrays.specs.Indices.{IsIndexFault}
use Rattle.mesh_arrays.specs.declared.fault.IndexFault.{IndexFault}
use Rattle.mesh_arrays.specs.declared.fault.IndexFault.TheVariants as index_fault
use Rattle.mesh_arrays.specs.declared.mesh.ArrayMesh.{ArrayMesh}
use Rattle.mesh_boolean.specs.Faults.{of_scene_fault, of_solid_fault, of_writing_fault}
use Rattle.mesh_boolean.specs.Effects.{decimals_of}
use Rattle.mesh_boolean.specs.Splits.{AreDecimalsOver}
use Rattle.mesh_boolean.specs.WritingFaults.{of_place_fault}
use Rattle.mesh_boolean.specs.declared.fault.BooleanFault.{BooleanFault}
use Rattle.mesh_boolean.specs.declared.fault.BooleanFault.TheVariants.{File, Image, Scene, Solid, TooFar, TooManyTriangles, OutOfMemory}
use Rattle.mesh_boolean.specs.declared.split.SplitDecimals.{SplitDecimals}
use Rattle.mesh_boolean.specs.declared.writing_fault.WritingFault.{WritingFault}
use Rattle.mesh_boolean.specs.declared.writing_fault.WritingFault.TheVariants as writing_fault
use Rattle.mesh_grid.specs.declared.grid.choice.Wanted.{Wanted}
use Rattle.mesh_grid.specs.declared.grid.grid.Grid.{Grid}
use Rattle.mesh_ply.specs.declared.fault.PlyFault.{PlyFault}
use Rattle.mesh_ply.specs.declared.fault.PlyFault.TheVariants as ply_fault
use Rattle.mesh_read.specs.declared.surface.surface.Surface.{Surface}
use Rattle.mesh_scene.specs.Scene.Faults.{IsSceneFault}
use Rattle.mesh_scene.specs.Scene.Images.{images_of}
use Rattle.mesh_scene.specs.declared.scene.fault.SceneFault.{SceneFault}
use Rattle.mesh_scene.specs.declared.scene.fault.SceneFault.TheVariants as scene_fault
use Rattle.mesh_solid.specs.Mesh.Faults.{IsSolidFault}
use Rattle.mesh_solid.specs.Mesh.Meshes.{IsSolidMesh}
use Rattle.mesh_solid.specs.declared.mesh.fault.SolidFault.{SolidFault}
use Rattle.mesh_solid.specs.declared.mesh.fault.SolidFault.TheVariants as solid_fault
use Rattle.mesh_solid.specs.declared.mesh.mesh.SolidMesh.{SolidMesh}
use Rattle.mesh_written.specs.Decimals.{IsDecimalFault}
use Rattle.mesh_written.specs.declared.fault.PlaceFault.{PlaceFault}
use Rattle.mesh_written.specs.declared.fault.PlaceFault.TheVariants as place_fault
use Rattle.ember_arrays.specs.Faults.{IsArrayFault, IsArraysFault, IsFirstRefused, IsPlacingFault, IsSurfacesFault}
use Rattle.ember_arrays.specs.Faults.{of_index_fault, of_mesh_fault}
use Rattle.ember_arrays.specs.Meshes.{ArePlaced, AreSurfacesOf}

-- ---- the surfaces
first_refused : (meshes : List ArrayMesh) (i : ℕ) (d : ArrayMesh) (surfaces : List Surface) (fault : PlyFault) → i < length meshes →
    AreSurfacesOf (take i meshes) surfaces → IsMeshFault (get_or meshes i d) fault → (fault ≡ ply_fault.OutOfMemory → ⊥) →
    IsFirstRefused meshes i fault
first_refused meshes i d surfaces fault l before has other = record {
  mesh = get_or meshes i d;
  found = slice_get-get_or meshes i d l;
  has = has;
  of_mesh = other;
  surfaces = surfaces;
  before = before;
}

-- a mesh without a surface after meshes that have them is the first
pub refused_mesh_is_first : (meshes : List ArrayMesh) (i : ℕ) (d : ArrayMesh) (surfaces : List Surface) (fault : PlyFault) →
    i < length meshes → AreSurfacesOf (take i meshes) surfaces → IsMeshFault (get_or meshes i d) fault →
    IsSurfacesFault meshes (of_mesh_fault i fault)
refused_mesh_is_first meshes i d surfaces ply_fault.NoEnd l before has = absurd has
refused_mesh_is_first meshes i d surfaces (ply_fault.NotUnderstood line) l before has = absurd has
refused_mesh_is_first meshes i d surfaces ply_fault.NoFormat l before has = absurd has
refused_mesh_is_first meshes i d surfaces (ply_fault.ShortRow name row) l before has = absurd has
refused_mesh_is_first meshes i d surfaces (ply_fault.NotFinite number) l before has =
    first_refused meshes i d surfaces (ply_fault.NotFinite number) l before has other
  where
    other : ply_fault.NotFinite number ≡ ply_fault.OutOfMemory → ⊥
    other e = cc
refused_mesh_is_first meshes i d surfaces ply_fault.NoCoordinates l before has = absurd has
refused_mesh_is_first meshes i d surfaces ply_fault.NoCorners l before has = absurd has
refused_mesh_is_first meshes i d surfaces (ply_fault.NoSuchVertex number) l before has =
    first_refused meshes i d surfaces (ply_fault.NoSuchVertex number) l before has other
  where
    other : ply_fault.NoSuchVertex number ≡ ply_fault.OutOfMemory → ⊥
    other e = cc
refused_mesh_is_first meshes i d surfaces (ply_fault.FewCorners number) l before has = absurd has
refused_mesh_is_first meshes i d surfaces ply_fault.NoTriangles l before has =
    first_refused meshes i d surfaces ply_fault.NoTriangles l before has other
  where
    other : ply_fault.NoTriangles ≡ ply_fault.OutOfMemory → ⊥
    other e = cc
refused_mesh_is_first meshes i d surfaces (ply_fault.TooLarge number) l before has =
    first_refused meshes i d surfaces (ply_fault.TooLarge number) l before has other
  where
    other : ply_fault.TooLarge number ≡ ply_fault.OutOfMemory → ⊥
    other e = cc
refused_mesh_is_first meshes i d surfaces ply_fault.OutOfMemory l before has = tt

-- ---- the scene
-- meshes without surfaces are no scene
pub surfaces_fault_is : (meshes : List ArrayMesh) (wanted : Wanted) (fault : BooleanFault) → IsSurfacesFault meshes fault →
    IsPlacingFault meshes wanted fault
surfaces_fault_is meshes wanted (File index fault) h = h
surfaces_fault_is meshes wanted (Image index fault) h = absurd h
surfaces_fault_is meshes wanted (Scene fault) h = absurd h
surfaces_fault_is meshes wanted (Solid fault) h = absurd h
surfaces_fault_is meshes wanted TooFar h = absurd h
surfaces_fault_is meshes wanted TooManyTriangles h = absurd h
surfaces_fault_is meshes wanted OutOfMemory h = tt

-- a fault of the scene of the meshes' surfaces
pub scene_fault_is : (meshes : List ArrayMesh) (wanted : Wanted) (surfaces : List Surface) (cause : SceneFault) →
    AreSurfacesOf meshes surfaces → IsSceneFault surfaces wanted cause → IsPlacingFault meshes wanted (of_scene_fault cause)
scene_fault_is meshes wanted surfaces scene_fault.NoTriangles are h =
    record { surfaces = surfaces; are = are; is_fault = h; of_scene = other }
  where
    other : scene_fault.NoTriangles ≡ scene_fault.OutOfMemory → ⊥
    other e = cc
scene_fault_is meshes wanted surfaces (scene_fault.StepTooSmall extent) are h =
    record { surfaces = surfaces; are = are; is_fault = h; of_scene = other }
  where
    other : scene_fault.StepTooSmall extent ≡ scene_fault.OutOfMemory → ⊥
    other e = cc
scene_fault_is meshes wanted surfaces (scene_fault.Open o) are h =
    record { surfaces = surfaces; are = are; is_fault = h; of_scene = other }
  where
    other : scene_fault.Open o ≡ scene_fault.OutOfMemory → ⊥
    other e = cc
scene_fault_is meshes wanted surfaces (scene_fault.TooManyTriangles n) are h =
    record { surfaces = surfaces; are = are; is_fault = h; of_scene = other }
  where
    other : scene_fault.TooManyTriangles n ≡ scene_fault.OutOfMemory → ⊥
    other e = cc
scene_fault_is meshes wanted surfaces scene_fault.OutOfMemory are h = tt

-- ---- the arrays
-- a corner that is too far out for a decimal
pub place_fault_is : (digits : Option ℕ) (grid : Grid) (mesh : SolidMesh) (cause : PlaceFault) →
    IsDecimalFault grid.step grid.offset mesh.corners.items cause → IsArraysFault digits grid mesh (of_place_fault cause)
place_fault_is digits grid mesh place_fault.TooFar h = h
place_fault_is digits grid mesh place_fault.OutOfMemory h = tt

-- an index that is too long
pub index_fault_is : (digits : Option ℕ) (grid : Grid) (mesh : SolidMesh) (over : SplitDecimals) (cause : IndexFault) →
    AreDecimalsOver (decimals_of digits grid mesh) over → IsIndexFault over.triangles.items cause →
    IsArraysFault digits grid mesh (of_index_fault cause)
index_fault_is digits grid mesh over index_fault.TooManyVertices are h = record { over = over; are_over = are; long = h }
index_fault_is digits grid mesh over index_fault.OutOfMemory are h = tt

-- ---- the solid
-- meshes that are no scene have no solid
pub placing_fault_is : (meshes : List ArrayMesh) (formula : Formula) (wanted : Wanted) (digits : Option ℕ) (fault : BooleanFault) →
    IsPlacingFault meshes wanted fault → IsArrayFault meshes formula wanted digits fault
placing_fault_is meshes formula wanted digits (File index fault) h = h
placing_fault_is meshes formula wanted digits (Image index fault) h = absurd h
placing_fault_is meshes formula wanted digits (Scene fault) h = h
placing_fault_is meshes formula wanted digits (Solid fault) h = absurd h
placing_fault_is meshes formula wanted digits TooFar h = absurd h
placing_fault_is meshes formula wanted digits TooManyTriangles h = absurd h
placing_fault_is meshes formula wanted digits OutOfMemory h = tt

module _ (meshes : List ArrayMesh) (formula : Formula) (wanted : Wanted) (digits : Option ℕ) (surfaces : List Surface)
    (grid : Grid) (are : ArePlaced meshes wanted surfaces grid) where
  -- a fault of the solid of the meshes' scene
  pub solid_fault_is : (cause : SolidFault) → IsSolidFault (images_of grid surfaces) formula cause →
      IsArrayFault meshes formula wanted digits (of_solid_fault cause)
  solid_fault_is (solid_fault.NoTables fault) h =
      record { surfaces = surfaces; grid = grid; are_placed = are; is_fault = h; of_solid = other }
    where
      other : solid_fault.NoTables fault ≡ solid_fault.OutOfMemory → ⊥
      other e = cc
  solid_fault_is (solid_fault.NotCut fault) h =
      record { surfaces = surfaces; grid = grid; are_placed = are; is_fault = h; of_solid = other }
    where
      other : solid_fault.NotCut fault ≡ solid_fault.OutOfMemory → ⊥
      other e = cc
  solid_fault_is solid_fault.OutOfMemory h = tt

  -- a fault of the arrays of its mesh
  pub arrays_fault_is : (mesh : SolidMesh) → IsSolidMesh (images_of grid surfaces) formula mesh → (cause : WritingFault) →
      IsArraysFault digits grid mesh cause → IsArrayFault meshes formula wanted digits (of_writing_fault cause)
  arrays_fault_is mesh solid writing_fault.TooFar h =
      record { surfaces = surfaces; grid = grid; are_placed = are; mesh = mesh; is_mesh = solid; is_fault = h }
  arrays_fault_is mesh solid writing_fault.TooManyTriangles h =
      record { surfaces = surfaces; grid = grid; are_placed = are; mesh = mesh; is_mesh = solid; is_fault = h }
  arrays_fault_is mesh solid writing_fault.OutOfMemory h = tt
