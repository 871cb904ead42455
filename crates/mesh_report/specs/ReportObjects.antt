-- The report as an object of JSON: the numbers of the lines, under keys
use Rattle.std.specs.Global.{Vec}
use Rattle.std.specs.Prelude.{◌≡◌, ℕ, ◌+◌, ℤ, pos, int_lt, ◌==◌, List, [], ◌∷◌, ◌++◌, codes, decimal, drop, map}
use Rattle.std.specs.Prelude.{if◌then◌else◌}
use Rattle.std.specs.Fmt.{signed_decimal}
use Rattle.std.specs.Str.{bytes_eq}
use Rattle.mesh_boolean.specs.declared.output.SolidFile.{SolidFile}
use Rattle.mesh_boolean.specs.declared.writing.OutputMesh.{OutputMesh}
use Rattle.mesh_boolean.specs.Volumes.{sixfold_volumes_of_meshes}
use Rattle.mesh_grid.specs.declared.grid.grid.Grid.{Grid}
use Rattle.mesh_grid.specs.declared.moves.length.Length.{Length}
use Rattle.mesh_grid.specs.declared.snap.steps.GridStep.{GridStep}
use Rattle.mesh_grid.specs.Moves.Shown.{Rounded}
use Rattle.mesh_info.specs.Info.Lines.{quoted}
use Rattle.mesh_scene.specs.declared.scene.counts.Counts.{Counts}
use Rattle.mesh_scene.specs.declared.scene.scene.PlacedScene.{PlacedScene}
use Rattle.mesh_words.specs.declared.command.OutputFormat.{OutputFormat}
use Rattle.mesh_texts.specs.Texts.{size_text, step_text}
use Rattle.mesh_texts.specs.Objects.{array, object, object_line, texts_of, truth_value}
use Rattle.mesh_report.specs.Lying.{missed_warnings, told}
use Rattle.mesh_report.specs.Reports.{coarse_text, first_move, is_text, is_unpaired, rounding_text, unpaired_text}
use Rattle.mesh_report.specs.Volumes.{turned_text, volume_text}

-- ---- the grid
abbrev pub offset_value : Grid → List ℕ
offset_value g =
    array (signed_decimal g.offset.x ∷ signed_decimal g.offset.y ∷ signed_decimal g.offset.z ∷ [])

-- ---- the files
-- a volume, or null if it isn't shown
abbrev pub volume_value : GridStep → ℤ → List ℕ
volume_value step sixfold_volume =
    if bytes_eq (volume_text step sixfold_volume) (codes "?") then codes "null" else volume_text step sixfold_volume

-- the first volume, or null if there is none
abbrev pub first_volume : GridStep → List ℤ → List ℕ
first_volume step [] = codes "null"
first_volume step (sixfold_volume ∷ others) = volume_value step sixfold_volume

-- a file whose mesh is closed on the grid, how far its corners moved, and its volume
abbrev pub file_object : List ℕ → Counts → Rounded → List ℕ → List ℕ
file_object name c moved volume =
    object (
    (codes "file", quoted name) ∷ (codes "triangles", decimal c.triangles) ∷
    (codes "vanished", decimal c.vanished) ∷ (codes "without area", decimal c.flat) ∷
    (codes "greatest move", size_text moved.size moved.places) ∷ (codes "volume", volume) ∷ [])

-- an object for each file
abbrev pub file_objects : List (List ℕ) → GridStep → List Counts → List Length → List ℤ → List (List ℕ)
file_objects [] step counts moves volumes = []
file_objects (name ∷ names) step [] moves volumes = []
file_objects (name ∷ names) step (c ∷ counts) moves volumes =
    file_object name c (first_move moves) (first_volume step volumes)
    ∷ file_objects names step counts (drop 1 moves) (drop 1 volumes)

-- ---- the result
-- whether a text is a 2-manifold; null for another format
abbrev pub manifold_value : OutputFormat → OutputMesh → List ℕ
manifold_value format mesh = if is_text format then truth_value mesh.is_manifold else codes "null"

-- the mesh of so many faces, and what rounding did to it
abbrev pub result_object : OutputFormat → ℕ → OutputMesh → List ℕ
result_object format faces mesh =
    object (
    (codes "empty", truth_value (mesh.triangles == mesh.vanished)) ∷ (codes "faces", decimal faces) ∷
    (codes "triangles", decimal mesh.written) ∷ (codes "planes", decimal mesh.planes) ∷
    (codes "greatest rounding move", rounding_text mesh) ∷ (codes "vanished", decimal mesh.vanished) ∷
    (codes "without area", decimal mesh.effect.facings.without_area) ∷
    (codes "turned over", decimal mesh.effect.facings.turned_over) ∷
    (codes "edges of more than two triangles", decimal mesh.shared) ∷
    (codes "2-manifold", manifold_value format mesh) ∷ [])

-- ---- warnings, as the lines have them behind the word `warning`
-- that the file with this number may be inside out, if its volume is below 0
abbrev pub turned_warning : ℕ → List ℕ → GridStep → ℤ → List (List ℕ)
turned_warning number name step sixfold_volume =
    if int_lt sixfold_volume (pos 0) then quoted (turned_text number name step sixfold_volume) ∷ [] else []

-- of each file, the first of which has this number
abbrev pub turned_warnings : ℕ → List (List ℕ) → GridStep → List ℤ → List (List ℕ)
turned_warnings number [] step volumes = []
turned_warnings number (name ∷ names) step [] = []
turned_warnings number (name ∷ names) step (sixfold_volume ∷ volumes) =
    turned_warning number name step sixfold_volume ++ turned_warnings (number + 1) names step volumes

-- that rounding moved corners far, if it did
abbrev pub coarse_warning : OutputFormat → OutputMesh → List (List ℕ)
coarse_warning format mesh = if mesh.effect.is_coarse then quoted (coarse_text format mesh) ∷ [] else []

-- that a text isn't a 2-manifold, if some edge of it doesn't have two triangles
abbrev pub unpaired_warning : OutputFormat → OutputMesh → List (List ℕ)
unpaired_warning format mesh = if is_unpaired format mesh then quoted (unpaired_text format) ∷ [] else []

-- both
abbrev pub mesh_warnings : OutputFormat → OutputMesh → List (List ℕ)
mesh_warnings format mesh = coarse_warning format mesh ++ unpaired_warning format mesh

-- of a Boolean: of the volumes of files, of the triangles on them, and of the mesh
abbrev pub solid_warnings : List (List ℕ) → OutputFormat → SolidFile → List (List ℕ)
solid_warnings names format out =
    let all = out.written.triangles in
    turned_warnings 1 names out.grid.step out.sixfold_volumes.items ++
    (missed_warnings names (told all out.lying) all ++ mesh_warnings format out.written)

-- ---- reports
abbrev pub solid_object : List (List ℕ) → OutputFormat → SolidFile → List ℕ
solid_object names format out =
    let step = out.grid.step in
    let files = file_objects names step out.counts.items out.moves.items out.sixfold_volumes.items in
    object_line (
    (codes "step", step_text step) ∷ (codes "offset", offset_value out.grid) ∷ (codes "files", array files) ∷
    (codes "result", result_object format out.report.faces out.written) ∷
    (codes "triangles on files", array (map decimal (told out.written.triangles out.lying))) ∷
    (codes "warnings", array (solid_warnings names format out)) ∷ [])

abbrev pub scene_object : List (List ℕ) → PlacedScene → List ℕ
scene_object names placed =
    let step = placed.grid.step in
    let volumes = sixfold_volumes_of_meshes placed.scene.tris placed.scene.meshes in
    let files = file_objects names step placed.counts.items placed.moves.items volumes in
    object_line (
    (codes "step", step_text step) ∷ (codes "offset", offset_value placed.grid) ∷ (codes "files", array files) ∷
    (codes "warnings", array (turned_warnings 1 names step volumes)) ∷ [])

abbrev pub mesh_object : OutputFormat → OutputMesh → List ℕ
mesh_object format mesh =
    object_line (
    (codes "result", result_object format mesh.faces mesh) ∷
    (codes "warnings", array (mesh_warnings format mesh)) ∷ [])

-- ---- what calls give
abbrev pub AreFileObjects : List (List ℕ) → GridStep → List Counts → List Length → List ℤ → Vec (Vec ℕ) → Type 0
AreFileObjects names step counts moves volumes texts =
    texts_of texts.items ≡ file_objects names step counts moves volumes

abbrev pub IsFilesValue : List (List ℕ) → GridStep → List Counts → List Length → List ℤ → Vec ℕ → Type 0
IsFilesValue names step counts moves volumes text = text.items ≡ array (file_objects names step counts moves volumes)
