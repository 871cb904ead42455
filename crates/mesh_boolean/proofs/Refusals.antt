-- The faults of the steps are those of files
use Rattle.std.proofs.Common.{◌≡◌, ◌⊎◌, inl, inr, ℕ, ◌<◌, true, List, length, take, get_or, Err, Option, refl, sym, ap, subst, ◌∙◌}
use Rattle.std.specs.List.{slice_get}
use Rattle.std.proofs.lemmas.Option.{slice_get-get_or}
use Rattle.ember_expr.specs.Formula.{Formula}
use Rattle.mesh_file.specs.declared.file.fault.FileFault.{FileFault}
use Rattle.mesh_file.specs.declared.file.fault.FileFault.TheVariants as file_fault
use Rattle.mesh_file.specs.File.Faults.{fault_of, is_plain}
use Rattle.mesh_grid.specs.declared.grid.choice.Wanted.{Wanted}
use Rattle.mesh_grid.specs.declared.grid.grid.Grid.{Grid}
use Rattle.mesh_scene.specs.declared.scene.fault.SceneFault.{SceneFault}
use Rattle.mesh_scene.specs.declared.scene.fault.SceneFault.TheVariants as scene_fault
use Rattle.mesh_scene.specs.Scene.Faults.{IsSceneFault}
use Rattle.mesh_scene.specs.Scene.Images.{images_of}
use Rattle.mesh_solid.specs.declared.mesh.fault.SolidFault.{SolidFault}
use Rattle.mesh_solid.specs.declared.mesh.fault.SolidFault.TheVariants as solid_fault
use Rattle.mesh_solid.specs.declared.mesh.mesh.SolidMesh.{SolidMesh}
use Rattle.mesh_solid.specs.Mesh.Faults.{IsSolidFault}
use Rattle.mesh_solid.specs.Mesh.Meshes.{IsSolidMesh}
use Rattle.mesh_read.specs.declared.surface.surface.Surface.{Surface}
use Rattle.mesh_boolean.specs.declared.fault.BooleanFault.{BooleanFault}
use Rattle.mesh_boolean.specs.declared.fault.BooleanFault.TheVariants.{File, Image, Scene, Solid, TooFar, TooManyTriangles, OutOfMemory}
use Rattle.mesh_boolean.specs.declared.files.InputFile.{InputFile}
use Rattle.mesh_boolean.specs.declared.wanted.WantedFile.{WantedFile}
use Rattle.mesh_boolean.specs.declared.writing_fault.WritingFault.{WritingFault}
use Rattle.mesh_boolean.specs.declared.writing_fault.WritingFault.TheVariants as writing_fault
use Rattle.mesh_placing.specs.declared.files.Placing.{Placing}
use Rattle.mesh_boolean.specs.Images.{AreGiven, HaveImageFault}
use Rattle.mesh_boolean.specs.Files.{reading, AreReadings, ArePlaced}
use Rattle.mesh_boolean.specs.WritingFaults.{IsWritingFault}
use Rattle.mesh_boolean.specs.Faults.{HasFault, IsRefusal, IsReadFault, IsPlacingFault, IsBooleanFault, of_file_fault}
use Rattle.mesh_boolean.specs.Faults.{of_scene_fault, of_solid_fault, of_writing_fault}

-- ---- files
has_fault : (file : InputFile) (fault : FileFault) → (fault ≡ file_fault.OutOfMemory → ⊥) →
    (fault ≡ file_fault.OutOfMemory) ⊎ (reading file ≡ Err (fault_of fault)) → is_plain fault ≡ true → HasFault file fault
has_fault file fault other (inl memory) plain = absurd (other memory)
has_fault file fault other (inr gives) plain = record { gives = gives; plain = plain; of_file = other }

-- the fault of a file is that of the file with its index
pub file_fault_is : (file : InputFile) (index : ℕ) (fault : FileFault) →
    (fault ≡ file_fault.OutOfMemory) ⊎ (reading file ≡ Err (fault_of fault)) → is_plain fault ≡ true →
    IsRefusal file index (of_file_fault index fault)
file_fault_is file index (file_fault.CutOff facets) h plain =
    (refl, has_fault file (file_fault.CutOff facets) other h plain)
  where
    other : file_fault.CutOff facets ≡ file_fault.OutOfMemory → ⊥
    other e = cc
file_fault_is file index (file_fault.Stl fault) h plain =
    (refl, has_fault file (file_fault.Stl fault) other h plain)
  where
    other : file_fault.Stl fault ≡ file_fault.OutOfMemory → ⊥
    other e = cc
file_fault_is file index (file_fault.Ply fault) h plain =
    (refl, has_fault file (file_fault.Ply fault) other h plain)
  where
    other : file_fault.Ply fault ≡ file_fault.OutOfMemory → ⊥
    other e = cc
file_fault_is file index (file_fault.Off fault) h plain =
    (refl, has_fault file (file_fault.Off fault) other h plain)
  where
    other : file_fault.Off fault ≡ file_fault.OutOfMemory → ⊥
    other e = cc
file_fault_is file index (file_fault.Gltf fault) h plain =
    (refl, has_fault file (file_fault.Gltf fault) other h plain)
  where
    other : file_fault.Gltf fault ≡ file_fault.OutOfMemory → ⊥
    other e = cc
file_fault_is file index (file_fault.Wavefront fault) h plain =
    (refl, has_fault file (file_fault.Wavefront fault) other h plain)
  where
    other : file_fault.Wavefront fault ≡ file_fault.OutOfMemory → ⊥
    other e = cc
file_fault_is file index (file_fault.Unread format) h plain =
    (refl, has_fault file (file_fault.Unread format) other h plain)
  where
    other : file_fault.Unread format ≡ file_fault.OutOfMemory → ⊥
    other e = cc
file_fault_is file index file_fault.OutOfMemory h plain = tt

-- the fault of a file after files that are read is the first
pub refused_file_is_first : (files : List InputFile) (i : ℕ) (d : InputFile) (surfaces : List Surface)
    (fault : BooleanFault) → i < length files → AreReadings (take i files) surfaces →
    IsRefusal (get_or files i d) i fault → IsReadFault files fault
refused_file_is_first files i d surfaces (File index fault) l h r = record {
  file = get_or files i d;
  found = ap (slice_get files) r.0 ∙ slice_get-get_or files i d l;
  has = r.1;
  surfaces = surfaces;
  before = subst (λ (k : ℕ). AreReadings (take k files) surfaces) (sym r.0) h;
}
refused_file_is_first files i d surfaces (Image index fault) l h r = absurd r
refused_file_is_first files i d surfaces (Scene fault) l h r = absurd r
refused_file_is_first files i d surfaces (Solid fault) l h r = absurd r
refused_file_is_first files i d surfaces TooFar l h r = absurd r
refused_file_is_first files i d surfaces TooManyTriangles l h r = absurd r
refused_file_is_first files i d surfaces OutOfMemory l h r = tt

-- files that aren't read are no scene
pub read_fault_is : (files : List InputFile) (placings : List (Option Placing)) (wanted : Wanted) (fault : BooleanFault) →
    IsReadFault files fault → IsPlacingFault files placings wanted fault
read_fault_is files placings wanted (File index fault) h = h
read_fault_is files placings wanted (Image index fault) h = absurd h
read_fault_is files placings wanted (Scene fault) h = absurd h
read_fault_is files placings wanted (Solid fault) h = absurd h
read_fault_is files placings wanted TooFar h = absurd h
read_fault_is files placings wanted TooManyTriangles h = absurd h
read_fault_is files placings wanted OutOfMemory h = tt

-- ---- placings
-- a file that has no mesh where it is placed
pub image_fault_is : (files : List InputFile) (placings : List (Option Placing)) (wanted : Wanted) (as_read : List Surface)
    (fault : BooleanFault) → AreReadings files as_read → HaveImageFault placings as_read fault → IsPlacingFault files placings wanted fault
image_fault_is files placings wanted as_read (File index fault) read h = absurd h
image_fault_is files placings wanted as_read (Image index fault) read h = record { as_read = as_read; read = read; has = h }
image_fault_is files placings wanted as_read (Scene fault) read h = absurd h
image_fault_is files placings wanted as_read (Solid fault) read h = absurd h
image_fault_is files placings wanted as_read TooFar read h = absurd h
image_fault_is files placings wanted as_read TooManyTriangles read h = absurd h
image_fault_is files placings wanted as_read OutOfMemory read h = tt

-- ---- the scene
-- a fault of the scene of the files' surfaces
pub scene_fault_is : (files : List InputFile) (placings : List (Option Placing)) (wanted : Wanted) (as_read surfaces : List Surface)
    (cause : SceneFault) → AreReadings files as_read → AreGiven placings as_read surfaces → IsSceneFault surfaces wanted cause →
    IsPlacingFault files placings wanted (of_scene_fault cause)
scene_fault_is files placings wanted as_read surfaces scene_fault.NoTriangles read given h =
    record { as_read = as_read; read = read; surfaces = surfaces; given = given; is_fault = h; of_scene = other }
  where
    other : scene_fault.NoTriangles ≡ scene_fault.OutOfMemory → ⊥
    other e = cc
scene_fault_is files placings wanted as_read surfaces (scene_fault.StepTooSmall extent) read given h =
    record { as_read = as_read; read = read; surfaces = surfaces; given = given; is_fault = h; of_scene = other }
  where
    other : scene_fault.StepTooSmall extent ≡ scene_fault.OutOfMemory → ⊥
    other e = cc
scene_fault_is files placings wanted as_read surfaces (scene_fault.Open o) read given h =
    record { as_read = as_read; read = read; surfaces = surfaces; given = given; is_fault = h; of_scene = other }
  where
    other : scene_fault.Open o ≡ scene_fault.OutOfMemory → ⊥
    other e = cc
scene_fault_is files placings wanted as_read surfaces (scene_fault.TooManyTriangles n) read given h =
    record { as_read = as_read; read = read; surfaces = surfaces; given = given; is_fault = h; of_scene = other }
  where
    other : scene_fault.TooManyTriangles n ≡ scene_fault.OutOfMemory → ⊥
    other e = cc
scene_fault_is files placings wanted as_read surfaces scene_fault.OutOfMemory read given h = tt

-- files that are no scene have no solid
pub placing_fault_is : (files : List InputFile) (formula : Formula) (wanted : WantedFile) (fault : BooleanFault) →
    IsPlacingFault files wanted.placings.now wanted.grid fault → IsBooleanFault files formula wanted fault
placing_fault_is files formula wanted (File index fault) h = h
placing_fault_is files formula wanted (Image index fault) h = h
placing_fault_is files formula wanted (Scene fault) h = h
placing_fault_is files formula wanted (Solid fault) h = absurd h
placing_fault_is files formula wanted TooFar h = absurd h
placing_fault_is files formula wanted TooManyTriangles h = absurd h
placing_fault_is files formula wanted OutOfMemory h = tt

-- ---- the solid and its file
module _ (files : List InputFile) (formula : Formula) (wanted : WantedFile) (surfaces : List Surface) (grid : Grid)
    (are : ArePlaced files wanted.placings.now wanted.grid surfaces grid) where
  -- a fault of the solid of the files' scene
  pub solid_fault_is : (cause : SolidFault) → IsSolidFault (images_of grid surfaces) formula cause → IsBooleanFault files formula wanted (of_solid_fault cause)
  solid_fault_is (solid_fault.NoTables fault) h =
      record { surfaces = surfaces; grid = grid; are_placed = are; is_fault = h; of_solid = other }
    where
      other : solid_fault.NoTables fault ≡ solid_fault.OutOfMemory → ⊥
      other e = cc
  solid_fault_is (solid_fault.NotCut fault) h =
      record { surfaces = surfaces; grid = grid; are_placed = are; is_fault = h; of_solid = other }
    where
      other : solid_fault.NotCut fault ≡ solid_fault.OutOfMemory → ⊥
      other e = cc
  solid_fault_is solid_fault.OutOfMemory h = tt

  -- a fault of the mesh of their solid
  pub writing_fault_is : (mesh : SolidMesh) → IsSolidMesh (images_of grid surfaces) formula mesh →
      (cause : WritingFault) → IsWritingFault wanted.format grid mesh cause →
      IsBooleanFault files formula wanted (of_writing_fault cause)
  writing_fault_is mesh solid writing_fault.TooFar h =
      record { surfaces = surfaces; grid = grid; are_placed = are; mesh = mesh; solid = solid; is_fault = h }
  writing_fault_is mesh solid writing_fault.TooManyTriangles h =
      record { surfaces = surfaces; grid = grid; are_placed = are; mesh = mesh; solid = solid; is_fault = h }
  writing_fault_is mesh solid writing_fault.OutOfMemory h = tt
