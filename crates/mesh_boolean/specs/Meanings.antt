-- What is said of all outputs, and of files that are never open
use Rattle.std.specs.Prelude.{List}
use Rattle.ember_expr.specs.Formula.{Formula}
use Rattle.ember_meaning.specs.Closed.Chains.{IsClosedSurface}
use Rattle.ember_meaning.specs.Regions.Meaning.{IsFalseOutside, HaveMeaning}
use Rattle.ember_meaning.specs.Regions.Nearby.{WindOnceAtMost}
use Rattle.mesh_scene.specs.declared.scene.fault.Open.{Open}
use Rattle.mesh_scene.specs.declared.scene.fault.SceneFault.TheVariants as scene_fault
use Rattle.mesh_scene.specs.Scene.Images.{images_of}
use Rattle.mesh_solid.specs.Mesh.MeshFaces.{faces_of_mesh}
use Rattle.mesh_boolean.specs.declared.fault.BooleanFault.TheVariants.{Scene}
use Rattle.mesh_boolean.specs.declared.files.InputFile.{InputFile}
use Rattle.mesh_boolean.specs.declared.output.SolidFile.{SolidFile}
use Rattle.mesh_boolean.specs.declared.wanted.WantedFile.{WantedFile}
use Rattle.mesh_boolean.specs.Faults.{IsBooleanFault}
use Rattle.mesh_boolean.specs.Outputs.{IsOutput}

-- ---- outputs
-- it is so of each output of an expression that is false outside
abbrev pub AllOutputs : ((files : List InputFile) (formula : Formula) (wanted : WantedFile) (out : SolidFile) →
    IsOutput files formula wanted out → Type 0) → Type 0
AllOutputs Is =
    (files : List InputFile) (formula : Formula) (wanted : WantedFile) (out : SolidFile) → IsFalseOutside formula →
    (is : IsOutput files formula wanted out) → Is files formula wanted out is

-- the faces that the triangles cut up, before these are rounded, have the meaning over the files' triangles on the grid
abbrev pub FacesHaveMeaning : (files : List InputFile) (formula : Formula) (wanted : WantedFile) (out : SolidFile) →
    IsOutput files formula wanted out → Type 0
FacesHaveMeaning files formula wanted out is =
    HaveMeaning (images_of out.grid is.surfaces) formula is.solid.of_document.tables_are.faces

-- and they are a closed surface
abbrev pub FacesAreClosed : (files : List InputFile) (formula : Formula) (wanted : WantedFile) (out : SolidFile) →
    IsOutput files formula wanted out → Type 0
FacesAreClosed files formula wanted out is = IsClosedSurface is.solid.of_document.tables_are.read.written

-- the triangles, before they are rounded, have this meaning
abbrev pub TrianglesHaveMeaning : (files : List InputFile) (formula : Formula) (wanted : WantedFile)
    (out : SolidFile) → IsOutput files formula wanted out → Type 0
TrianglesHaveMeaning files formula wanted out is =
    HaveMeaning (images_of out.grid is.surfaces) formula (faces_of_mesh is.mesh)

-- and they wind once or not at all
abbrev pub TrianglesWindOnceAtMost : (files : List InputFile) (formula : Formula) (wanted : WantedFile)
    (out : SolidFile) → IsOutput files formula wanted out → Type 0
TrianglesWindOnceAtMost files formula wanted out is = WindOnceAtMost (faces_of_mesh is.mesh)

-- ---- files
-- the files are never refused as open
abbrev pub AreNeverOpen : List InputFile → WantedFile → Type 0
AreNeverOpen files wanted =
    (formula : Formula) (o : Open) → IsBooleanFault files formula wanted (Scene (scene_fault.Open o)) → ⊥
