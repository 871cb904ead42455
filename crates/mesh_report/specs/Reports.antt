-- What is reported
use Rattle.std.specs.Global.{Vec}
use Rattle.std.specs.Prelude.{◌≡◌, ℕ, ℤ, Bool, true, false, ◌&&◌, not, ◌==◌, List, [], ◌∷◌, ◌++◌, codes, decimal, drop}
use Rattle.std.specs.Prelude.{if◌then◌else◌}
use Rattle.std.specs.Fmt.{signed_decimal}
use Rattle.mesh_boolean.specs.declared.output.SolidFile.{SolidFile}
use Rattle.mesh_boolean.specs.declared.writing.OutputMesh.{OutputMesh}
use Rattle.mesh_boolean.specs.Volumes.{sixfold_volumes_of_meshes}
use Rattle.mesh_grid.specs.declared.grid.grid.Grid.{Grid}
use Rattle.mesh_words.specs.declared.command.ExportRequest.{ExportRequest}
use Rattle.mesh_words.specs.declared.command.Request.{Request}
use Rattle.mesh_words.specs.declared.command.SnapRequest.{SnapRequest}
use Rattle.mesh_words.specs.declared.command.OutputFormat.{OutputFormat}
use Rattle.mesh_words.specs.declared.command.OutputFormat.TheVariants.{Glb, Obj, Off, Ply, Stl}
use Rattle.mesh_grid.specs.declared.moves.length.Length.{Length}
use Rattle.mesh_grid.specs.Moves.Shown as moves
use Rattle.mesh_effect.specs.Rounding.Shown.{rounded_of}
use Rattle.mesh_effect.specs.Rounding.Texts.{move_text}
use Rattle.mesh_scene.specs.declared.scene.counts.Counts.{Counts}
use Rattle.mesh_scene.specs.declared.scene.scene.PlacedScene.{PlacedScene}
use Rattle.mesh_texts.specs.Texts.{line, step_text}
use Rattle.mesh_texts.specs.Texts as texts
use Rattle.mesh_report.specs.Lying.{on_file_lines, told}
use Rattle.mesh_report.specs.Volumes.{volume_lines}

-- the grid
abbrev pub grid_line : Grid → List ℕ
grid_line g =
    line (codes "step " ++ (step_text g.step ++
    (codes ", grid offset " ++ (signed_decimal g.offset.x ++
    (codes " " ++ (signed_decimal g.offset.y ++ (codes " " ++ signed_decimal g.offset.z)))))))

-- a file whose mesh is closed on the grid, and how far its corners moved
abbrev pub counts_line : List ℕ → Counts → moves.Rounded → List ℕ
counts_line name c moved =
    line (name ++ (codes ": " ++ (decimal c.triangles ++
    (codes " triangles, " ++ (decimal c.vanished ++
    (codes " vanished, " ++ (decimal c.flat ++
    (codes " without area; greatest move " ++ (texts.move_text moved ++ codes "; closed")))))))))

-- the first move, or 0 if there is none
abbrev pub first_move : List Length → moves.Rounded
first_move [] = record { size = 0; places = 0 }
first_move (moved ∷ others) = moves.rounded_of moved

-- a line for each file
abbrev pub counts_lines : List (List ℕ) → List Counts → List Length → List ℕ
counts_lines [] counts moves = []
counts_lines (name ∷ names) [] moves = []
counts_lines (name ∷ names) (c ∷ counts) moves =
    counts_line name c (first_move moves) ++ counts_lines names counts (drop 1 moves)

-- the grid, a line for each file, and one for the volume of each, which is so many sixths of the step's cube
abbrev pub scene_lines : List (List ℕ) → Grid → List Counts → List Length → List ℤ → List ℕ
scene_lines names g counts moves sixfold_volumes =
    grid_line g ++ (counts_lines names counts moves ++ volume_lines 1 names g.step sixfold_volumes)

-- whether anything is left
abbrev pub empty_line : OutputMesh → List ℕ
empty_line mesh = if mesh.triangles == mesh.vanished then line (codes "the result is empty") else []

-- a format in a sentence
abbrev pub name_of_format : OutputFormat → List ℕ
name_of_format Stl = codes "STL"
name_of_format Obj = codes "OBJ"
name_of_format Ply = codes "PLY"
name_of_format Off = codes "OFF"
name_of_format Glb = codes "GLB"

-- a text has vertices that its triangles share, and as many digits as are asked for
abbrev pub is_text : OutputFormat → Bool
is_text Stl = false
is_text Obj = true
is_text Ply = true
is_text Off = true
is_text Glb = false

-- how far corners moved at most when they were rounded
abbrev pub rounding_text : OutputMesh → List ℕ
rounding_text mesh = move_text (rounded_of mesh.effect.greatest)

-- what helps if this is much for the grid
abbrev pub remedy : OutputFormat → List ℕ
remedy format =
    if is_text format then codes "raise --digits, or leave it out"
    else codes "write OBJ, PLY or OFF, or move the parts to the origin"

-- that it is
abbrev pub coarse_text : OutputFormat → OutputMesh → List ℕ
coarse_text format mesh =
    codes "rounding for " ++ (name_of_format format ++
    (codes " moves corners by up to " ++ (rounding_text mesh ++
    (codes ", more than a hundredth of the step; " ++ remedy format))))

-- if it is
abbrev pub coarse_line : OutputFormat → OutputMesh → List ℕ
coarse_line format mesh =
    if mesh.effect.is_coarse then line (codes "warning: " ++ coarse_text format mesh) else []

-- a text has an edge without two triangles
abbrev pub is_unpaired : OutputFormat → OutputMesh → Bool
is_unpaired format mesh = is_text format && not mesh.is_manifold

-- that it has
abbrev pub unpaired_text : OutputFormat → List ℕ
unpaired_text format =
    codes "some edges of the " ++ (name_of_format format ++
    codes " don't have two triangles, so it isn't a 2-manifold; let touching parts overlap, or raise --digits")

-- if it has
abbrev pub unpaired_line : OutputFormat → OutputMesh → List ℕ
unpaired_line format mesh =
    if is_unpaired format mesh then line (codes "warning: " ++ unpaired_text format) else []

-- the mesh of so many faces
abbrev pub mesh_text : ℕ → OutputMesh → List ℕ
mesh_text faces mesh =
    decimal faces ++ (codes " faces -> " ++ (decimal mesh.written ++
    (codes " triangles in " ++ (decimal mesh.planes ++
    (codes " planes; greatest rounding move " ++ rounding_text mesh)))))

-- what rounding did to its triangles, and how many edges more than two of them have
abbrev pub losses_text : OutputMesh → List ℕ
losses_text mesh =
    decimal mesh.vanished ++ (codes " vanished, " ++
    (decimal mesh.effect.facings.without_area ++ (codes " without area, " ++
    (decimal mesh.effect.facings.turned_over ++ (codes " turned over; " ++
    (decimal mesh.shared ++ codes " edges of more than two triangles"))))))

abbrev pub mesh_line : ℕ → OutputMesh → List ℕ
mesh_line faces mesh = line (mesh_text faces mesh ++ (codes "; " ++ losses_text mesh))

abbrev pub mesh_lines : OutputFormat → ℕ → OutputMesh → List ℕ
mesh_lines format faces mesh =
    empty_line mesh ++ (coarse_line format mesh ++ (unpaired_line format mesh ++ mesh_line faces mesh))

-- the lines of the triangles on each file, and those of the mesh
abbrev pub result_lines : List (List ℕ) → OutputFormat → SolidFile → List ℕ
result_lines names format out =
    on_file_lines names (told out.written.triangles out.lying) out.written.triangles
    ++ mesh_lines format out.report.faces out.written

-- all lines of a Boolean
abbrev pub report_lines : List (List ℕ) → OutputFormat → SolidFile → List ℕ
report_lines names format out =
    scene_lines names out.grid out.counts.items out.moves.items out.sixfold_volumes.items
    ++ result_lines names format out

-- ---- reports, unless they are to be quiet
abbrev pub report_of : Request → SolidFile → List ℕ
report_of request out = if request.quiet then [] else report_lines request.files request.format out

abbrev pub snap_report : SnapRequest → PlacedScene → List ℕ
snap_report request placed =
    if request.quiet then []
    else scene_lines request.files placed.grid placed.counts.items placed.moves.items
    (sixfold_volumes_of_meshes placed.scene.tris placed.scene.meshes)

abbrev pub export_report : ExportRequest → OutputMesh → List ℕ
export_report request mesh = if request.quiet then [] else mesh_lines request.format mesh.faces mesh

-- ---- what calls append
-- the lines of the grid, of the files and of their volumes
abbrev pub AddsScene : List (List ℕ) → Grid → List Counts → List Length → List ℤ → Vec ℕ → Vec ℕ → Type 0
AddsScene names g counts moves sixfold_volumes old new =
    new.items ≡ old.items ++ scene_lines names g counts moves sixfold_volumes

-- the lines of the triangles on each file, and those of the mesh
abbrev pub AddsResult : Request → SolidFile → Vec ℕ → Vec ℕ → Type 0
AddsResult request out old new = new.items ≡ old.items ++ result_lines request.files request.format out
