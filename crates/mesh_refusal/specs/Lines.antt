-- The line on standard error of a request that isn't met
use Rattle.std.specs.Prelude.{⊤, ℕ, ◌<◌, ◌+◌, List, [], ◌++◌, codes, decimal, Some, None, string_bytes}
use Rattle.std.specs.declared.option.Option.{Option}
use Rattle.ember_expr.specs.declared.fault.ExprFault.{ExprFault}
use Rattle.ember_expr.specs.declared.fault.ExprFault.TheVariants as expr
use Rattle.ember_io.specs.declared.shelf.FaultKind.{FaultKind}
use Rattle.ember_io.specs.declared.shelf.FaultKind.TheVariants as kind
use Rattle.mesh_file.specs.declared.format.format.Format.{Format}
use Rattle.mesh_file.specs.declared.format.format.Format.TheVariants as formats
use Rattle.mesh_words.specs.declared.command.OutputFormat.{OutputFormat}
use Rattle.mesh_words.specs.declared.command.OutputFormat.TheVariants as output
use Rattle.mesh_words.specs.declared.command.Request.{Request}
use Rattle.mesh_words.specs.declared.command.SnapRequest.{SnapRequest}
use Rattle.mesh_words.specs.declared.command.WantedStep.{WantedStep}
use Rattle.mesh_scene.specs.declared.scene.fault.Open.{Open}
use Rattle.mesh_grid.specs.declared.grid.extent.SceneExtent.{SceneExtent}
use Rattle.mesh_grid.specs.Snap.Steps.{IsStep}
use Rattle.mesh_solid.specs.declared.mesh.fault.SolidFault.{SolidFault}
use Rattle.mesh_solid.specs.declared.mesh.fault.SolidFault.TheVariants as solid
use Rattle.mesh_triangles.specs.declared.fault.TrianglesFault.{TrianglesFault}
use Rattle.mesh_triangles.specs.declared.fault.TrianglesFault.TheVariants as triangles
use Rattle.mesh_texts.specs.Texts.{corner_text, length_text, name_of, step_text, wanted_text}
use Rattle.mesh_refusal.specs.declared.status.Status.{Status}
use Rattle.mesh_refusal.specs.declared.status.Status.TheVariants.{StepOfNoGrid, ReadFault, NotWritten}
use Rattle.mesh_refusal.specs.declared.status.Status.TheVariants.{FileRefused, NoTriangles, NotClosed}
use Rattle.mesh_refusal.specs.declared.status.Status.TheVariants.{ExprRefused, Unbounded, LongFile}
use Rattle.mesh_refusal.specs.declared.status.Status.TheVariants.{TooManyTriangles, TooManyWritten}
use Rattle.mesh_refusal.specs.declared.status.Status.TheVariants.{StepTooSmall, TooFar, OutOfMemory}
use Rattle.mesh_refusal.specs.declared.status.Status.TheVariants.{Uncertified}

-- ---- expressions
-- a fault at a place of the expression
abbrev pub place_text : List ℕ → ℕ → List ℕ
place_text fault place = codes "expression: " ++ (fault ++ (codes " at " ++ decimal place))

-- the first fault of an expression
abbrev pub expr_text : ExprFault → List ℕ
expr_text (expr.Syntax place) = place_text (codes "syntax") place
expr_text (expr.Deep place) = place_text (codes "deep") place
expr_text (expr.Number place) = place_text (codes "number") place
expr_text (expr.NoMesh n) = codes "expression: no mesh " ++ decimal n
expr_text expr.Long = codes "expression: long"
expr_text expr.OutOfMemory = codes "out of memory"

-- ---- files
-- `FILE: TEXT` of file i
abbrev pub file_text : List (List ℕ) → ℕ → List ℕ → List ℕ
file_text names i text = name_of names i ++ (codes ": " ++ text)

-- what the number of a triangle's place counts in a file of this format
abbrev pub noun_of : Format → List ℕ
noun_of formats.BinaryStl = codes "facet"
noun_of formats.Ply = codes "face"
noun_of formats.Gltf = codes "triangle"
noun_of formats.AsciiStl = codes "line"
noun_of formats.Off = codes "line"
noun_of formats.CutOffStl = codes "line"
noun_of formats.Obj = codes "line"

-- how many edges are loose, the first of them, and where
abbrev pub open_text : Open → Format → List ℕ
open_text o format =
    codes "not closed: " ++ (decimal o.edges ++
    (codes " loose edges, the first from " ++ (corner_text o.grid o.loose.from ++
    (codes " to " ++ (corner_text o.grid o.loose.to ++
    (codes ", in " ++ (noun_of format ++
    (codes " " ++ (decimal o.place ++ codes "; close the hole in the modeller")))))))))

-- what is said of a file that isn't closed
abbrev pub not_closed_text : List (List ℕ) → Open → Format → List ℕ
not_closed_text names o format = file_text names (o.file + 1) (open_text o format)

-- ---- steps
-- the step that is given is too small: how long the scene is, and the finest step that would do
abbrev pub extent_text : List ℕ → SceneExtent → List ℕ
extent_text given extent =
    codes "--step " ++ (given ++
    (codes ": the scene is " ++ (length_text extent ++
    (codes " long, which needs a step of at least " ++ step_text extent.finest))))

-- ---- the solid
-- what has no triangles: one plane, or none is known
abbrev pub not_found_text : Option ℕ → List ℕ
not_found_text (Some plane) = codes "triangles of plane " ++ (decimal plane ++ codes " not found")
not_found_text None = codes "triangles of the result not found"

-- faces have no triangles
abbrev pub uncut_text : TrianglesFault → List ℕ
uncut_text (triangles.NoTriangles plane) = not_found_text (Some plane)
uncut_text fault = not_found_text None

-- or no tables
abbrev pub solid_text : SolidFault → List ℕ
solid_text (solid.NotCut fault) = uncut_text fault
solid_text fault = not_found_text None

-- ---- corners
-- a corner is too far out for the numbers of this format
abbrev pub too_far_text : OutputFormat → List ℕ
too_far_text output.Stl =
    codes "a corner of the result is too far from 0 for STL; move the meshes to the origin"
too_far_text output.Glb =
    codes "a corner of the result is too far from 0 for GLB; move the meshes to the origin"
too_far_text format = codes "a corner of the result is 10^21 or more from 0; move the meshes to the origin"

-- ---- numbers of triangles
-- there are too many for this format; of texts this is never said
abbrev pub too_many_text : OutputFormat → List ℕ
too_many_text output.Glb = codes "more than 4294967295 bytes, too many for GLB; simplify the meshes"
too_many_text format = codes "more than 4294967295 triangles, too many for STL; simplify the meshes"

-- ---- a file that can't be read
abbrev pub unreadable_text : FaultKind → List ℕ
unreadable_text kind.NotFound = codes "cannot be read (No such file or directory)"
unreadable_text kind.Forbidden = codes "cannot be read (Permission denied)"
unreadable_text kind.Folder = codes "cannot be read (Is a directory)"
unreadable_text kind.Other = codes "cannot be read"

-- ---- all of them
-- why not all files are read, or one isn't written
abbrev pub reading_why : List (List ℕ) → Status → List ℕ
reading_why names (ReadFault i kind) = file_text names i (unreadable_text kind)
reading_why names (FileRefused i reason) = file_text names i (string_bytes reason)
reading_why names (LongFile i) = file_text names i (codes "more than 268435456 bytes; simplify the mesh")
reading_why names (NotWritten name) = codes "cannot write " ++ string_bytes name
reading_why names OutOfMemory = codes "out of memory"
reading_why names status = []

-- why files aren't put on their grid
abbrev pub scene_why : List (List ℕ) → WantedStep → Status → List ℕ
scene_why names step StepOfNoGrid =
    codes "--step " ++ (wanted_text step ++
    codes ": no grid has this step; give at most 12 digits and 12 decimal places")
scene_why names step NoTriangles = codes "no triangles in the files; are they meshes?"
scene_why names step (NotClosed o format) = not_closed_text names o format
scene_why names step (TooManyTriangles count) =
    decimal count ++ codes " triangles after snapping, more than 262144; simplify the meshes"
scene_why names step (StepTooSmall extent) = extent_text (wanted_text step) extent
scene_why names step status = reading_why names status

abbrev pub snap_why : SnapRequest → Status → List ℕ
snap_why request status = scene_why request.files request.step status

-- why a Boolean isn't written
abbrev pub why_of : Request → Status → List ℕ
why_of request (ExprRefused fault) = expr_text fault
why_of request Unbounded = codes "expression holds outside all meshes"
why_of request TooManyWritten = too_many_text request.format
why_of request TooFar = too_far_text request.format
why_of request (Uncertified fault) = solid_text fault
why_of request status = scene_why request.files request.step status

-- the numbers in the status can be shown
abbrev pub IsShown : Status → Type 0
IsShown (NotClosed o format) = (o.file < 64) × IsStep o.grid.step
IsShown (StepTooSmall extent) = 0 < extent.finest.denominator
IsShown status = ⊤
