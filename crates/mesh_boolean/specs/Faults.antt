-- Why mesh files give no solid
use Rattle.std.specs.Prelude.{◌≡◌, ◌≢◌, ⊤, ℕ, true, List, take, Option, Some, Err, slice_get}
use Rattle.ember_expr.specs.Formula.{Formula}
use Rattle.mesh_file.specs.declared.file.fault.FileFault.{FileFault}
use Rattle.mesh_file.specs.declared.file.fault.FileFault.TheVariants as file_fault
use Rattle.mesh_file.specs.File.Faults.{fault_of, is_plain}
use Rattle.mesh_grid.specs.declared.grid.choice.Wanted.{Wanted}
use Rattle.mesh_grid.specs.declared.grid.grid.Grid.{Grid}
use Rattle.mesh_scene.specs.declared.scene.fault.SceneFault.{SceneFault}
use Rattle.mesh_scene.specs.declared.scene.fault.SceneFault.TheVariants as scene_fault
use Rattle.mesh_scene.specs.Scene.Faults.{IsSceneFault}
use Rattle.mesh_scene.specs.Scene.Images.{images_of}
use Rattle.mesh_solid.specs.declared.mesh.fault.SolidFault.{SolidFault}
use Rattle.mesh_solid.specs.declared.mesh.fault.SolidFault.TheVariants as solid_fault
use Rattle.mesh_solid.specs.declared.mesh.mesh.SolidMesh.{SolidMesh}
use Rattle.mesh_solid.specs.Mesh.Faults.{IsSolidFault}
use Rattle.mesh_solid.specs.Mesh.Meshes.{IsSolidMesh}
use Rattle.mesh_read.specs.declared.surface.surface.Surface.{Surface}
use Rattle.mesh_placing.specs.declared.files.Placing.{Placing}
use Rattle.mesh_placing.specs.declared.image.ImageFault.{ImageFault}
use Rattle.mesh_boolean.specs.declared.fault.BooleanFault.{BooleanFault}
use Rattle.mesh_boolean.specs.declared.fault.BooleanFault.TheVariants.{File, Image, Scene, Solid, TooFar}
use Rattle.mesh_boolean.specs.declared.fault.BooleanFault.TheVariants.{TooManyTriangles, OutOfMemory}
use Rattle.mesh_boolean.specs.declared.files.InputFile.{InputFile}
use Rattle.mesh_boolean.specs.declared.wanted.WantedFile.{WantedFile}
use Rattle.mesh_boolean.specs.declared.writing_fault.WritingFault.{WritingFault}
use Rattle.mesh_boolean.specs.declared.writing_fault.WritingFault.TheVariants as writing_fault
use Rattle.mesh_boolean.specs.Images.{AreGiven, HasNoImage}
use Rattle.mesh_boolean.specs.Files.{reading, AreReadings, ArePlaced}
use Rattle.mesh_boolean.specs.WritingFaults.{HasTooMany, LiesTooFar}

-- ---- the faults of the steps, where want of memory is one
abbrev pub of_file_fault : ℕ → FileFault → BooleanFault
of_file_fault index file_fault.OutOfMemory = OutOfMemory
of_file_fault index fault = File index fault

abbrev pub of_scene_fault : SceneFault → BooleanFault
of_scene_fault scene_fault.OutOfMemory = OutOfMemory
of_scene_fault fault = Scene fault

abbrev pub of_solid_fault : SolidFault → BooleanFault
of_solid_fault solid_fault.OutOfMemory = OutOfMemory
of_solid_fault fault = Solid fault

abbrev pub of_writing_fault : WritingFault → BooleanFault
of_writing_fault writing_fault.TooFar = TooFar
of_writing_fault writing_fault.TooManyTriangles = TooManyTriangles
of_writing_fault writing_fault.OutOfMemory = OutOfMemory

-- ---- files
-- the reading of the file gives this fault, which isn't want of memory; nor is the fault of a reader in it
pub record HasFault (file : InputFile) (fault : FileFault) : Type 0 where
  pub gives : reading file ≡ Err (fault_of fault)
  pub plain : is_plain fault ≡ true
  pub of_file : fault ≢ file_fault.OutOfMemory

-- why the file with this index isn't read
abbrev pub IsRefusal : InputFile → ℕ → BooleanFault → Type 0
IsRefusal file index (File i fault) = (i ≡ index) × HasFault file fault
IsRefusal file index (Image i fault) = ⊥
IsRefusal file index (Scene fault) = ⊥
IsRefusal file index (Solid fault) = ⊥
IsRefusal file index TooFar = ⊥
IsRefusal file index TooManyTriangles = ⊥
IsRefusal file index OutOfMemory = ⊤

-- the file with this index has this fault, and the readings of those before it give surfaces
pub record IsFirstUnread (files : List InputFile) (index : ℕ) (fault : FileFault) : Type 0 where
  pub file : InputFile
  pub found : slice_get files index ≡ Some file
  pub has : HasFault file fault
  pub surfaces : List Surface
  pub before : AreReadings (take index files) surfaces

-- why files aren't read
abbrev pub IsReadFault : List InputFile → BooleanFault → Type 0
IsReadFault files (File index fault) = IsFirstUnread files index fault
IsReadFault files (Image index fault) = ⊥
IsReadFault files (Scene fault) = ⊥
IsReadFault files (Solid fault) = ⊥
IsReadFault files TooFar = ⊥
IsReadFault files TooManyTriangles = ⊥
IsReadFault files OutOfMemory = ⊤

-- ---- placings
-- all files are read, but this one isn't a mesh where it is placed, and not for want of memory
pub record IsUnplaceable (files : List InputFile) (placings : List (Option Placing)) (index : ℕ) (fault : ImageFault) :
    Type 0 where
  pub as_read : List Surface
  pub read : AreReadings files as_read
  pub has : HasNoImage placings as_read index fault

-- ---- the scene
-- the surfaces of the files, where they are placed, are no scene, and not for want of memory
pub record AreNoScene (files : List InputFile) (placings : List (Option Placing)) (wanted : Wanted)
    (fault : SceneFault) : Type 0 where
  pub as_read : List Surface
  pub read : AreReadings files as_read
  pub surfaces : List Surface
  pub given : AreGiven placings as_read surfaces
  pub is_fault : IsSceneFault surfaces wanted fault
  pub of_scene : fault ≢ scene_fault.OutOfMemory

-- why files are no scene
abbrev pub IsPlacingFault : List InputFile → List (Option Placing) → Wanted → BooleanFault → Type 0
IsPlacingFault files placings wanted (File index fault) = IsFirstUnread files index fault
IsPlacingFault files placings wanted (Image index fault) = IsUnplaceable files placings index fault
IsPlacingFault files placings wanted (Scene fault) = AreNoScene files placings wanted fault
IsPlacingFault files placings wanted (Solid fault) = ⊥
IsPlacingFault files placings wanted TooFar = ⊥
IsPlacingFault files placings wanted TooManyTriangles = ⊥
IsPlacingFault files placings wanted OutOfMemory = ⊤

-- ---- the solid
-- the surfaces of the files are a scene, but its solid has no mesh, and not for want of memory
pub record HasNoMesh (files : List InputFile) (formula : Formula) (wanted : WantedFile) (fault : SolidFault) :
    Type 0 where
  pub surfaces : List Surface
  pub grid : Grid
  pub are_placed : ArePlaced files wanted.placings.now wanted.grid surfaces grid
  pub is_fault : IsSolidFault (images_of grid surfaces) formula fault
  pub of_solid : fault ≢ solid_fault.OutOfMemory

-- ---- the file
-- the surfaces of the files are a scene, its solid has a mesh, and the mesh has this fault
pub record HasUnwritten (files : List InputFile) (formula : Formula) (wanted : WantedFile)
    (IsFault : Grid → SolidMesh → Type 0) : Type 0 where
  pub surfaces : List Surface
  pub grid : Grid
  pub are_placed : ArePlaced files wanted.placings.now wanted.grid surfaces grid
  pub mesh : SolidMesh
  pub solid : IsSolidMesh (images_of grid surfaces) formula mesh
  pub is_fault : IsFault grid mesh

-- ---- all of them
-- the first file that isn't read, a file that is no mesh where it is placed, no scene, no mesh, or a mesh that isn't
-- written; or want of memory, of which nothing is said
abbrev pub IsBooleanFault : List InputFile → Formula → WantedFile → BooleanFault → Type 0
IsBooleanFault files formula wanted (File index fault) = IsFirstUnread files index fault
IsBooleanFault files formula wanted (Image index fault) = IsUnplaceable files wanted.placings.now index fault
IsBooleanFault files formula wanted (Scene fault) = AreNoScene files wanted.placings.now wanted.grid fault
IsBooleanFault files formula wanted (Solid fault) = HasNoMesh files formula wanted fault
IsBooleanFault files formula wanted TooFar = HasUnwritten files formula wanted (LiesTooFar wanted.format)
IsBooleanFault files formula wanted TooManyTriangles =
    HasUnwritten files formula wanted (HasTooMany wanted.format)
IsBooleanFault files formula wanted OutOfMemory = ⊤
