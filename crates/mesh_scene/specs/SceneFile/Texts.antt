-- The text of a scene
use Rattle.std.specs.Prelude.{◌≡◌, ℕ, ℤ, false, ◌==◌, if◌then◌else◌, List, ◌++◌, codes, decimal, map}
use Rattle.std.specs.Fmt.{signed_decimal}
use Rattle.std.specs.List.{zip, join_with_byte}
use Rattle.json.specs.Print.{quoted}
use Rattle.mesh_number.specs.Round.Decimals.{decimal_text}
use Rattle.mesh_grid.specs.declared.snap.steps.GridStep.{GridStep}
use Rattle.mesh_grid.specs.declared.snap.offsets.Offset.{Offset}
use Rattle.mesh_grid.specs.declared.grid.grid.Grid.{Grid}
use Rattle.mesh_grid.specs.declared.moves.length.Length.{Length}
use Rattle.mesh_scene.specs.declared.scene.counts.Counts.{Counts}
use Rattle.mesh_scene.specs.SceneFile.Fractions.{fraction_text, IsInLowestTerms}

-- ---- the files
-- a name, with the counts and the move of its surface
abbrev pub File : Type 0
File = List ℕ × (Counts × Length)

abbrev pub files_of : List (List ℕ) → List Counts → List Length → List File
files_of names counts moves = zip names (zip counts moves)

-- size / 10 ^ places
abbrev pub move_text : Length → List ℕ
move_text l = decimal_text false l.size l.places

-- `, "KEY": N`
unfoldable pub count_text : List ℕ → ℕ → List ℕ
count_text key n = codes ", \"" ++ (key ++ (codes "\": " ++ decimal n))

unfoldable pub counts_text : Counts → List ℕ
counts_text counts =
    count_text (codes "triangles") counts.triangles ++
    (count_text (codes "vanished") counts.vanished ++ count_text (codes "without area") counts.flat)

-- `{"file": NAME`
unfoldable pub name_text : List ℕ → List ℕ
name_text name = codes "{\"file\": " ++ quoted name

-- the object of a file
unfoldable pub file_text : File → List ℕ
file_text f =
    name_text f.0 ++ (counts_text f.1.0 ++ (codes ", \"greatest move\": \"" ++ (move_text f.1.1 ++ codes "\"}")))

-- what stands before the file with this index: a comma, unless it is the first, and a line end
abbrev pub separator : ℕ → List ℕ
separator index = if index == 0 then codes "\n    " else codes ",\n    "

-- a file in a line of its own
abbrev pub file_line : File → List ℕ
file_line f = codes "\n    " ++ file_text f

-- the lines of files, with commas (44) between them
abbrev pub files_text : List File → List ℕ
files_text fs = join_with_byte 44 (map file_line fs)

-- ---- the grid
unfoldable pub next_text : ℤ → List ℕ
next_text z = codes ", " ++ signed_decimal z

-- `[X, Y, Z]`
unfoldable pub offset_text : Offset → List ℕ
offset_text o = codes "[" ++ (signed_decimal o.x ++ (next_text o.y ++ (next_text o.z ++ codes "]")))

-- what stands before the files
unfoldable pub grid_text : GridStep → Offset → List ℕ
grid_text step offset =
    codes "{\n  \"step\": \"" ++ (fraction_text step ++
    (codes "\",\n  \"offset\": " ++ (offset_text offset ++ codes ",\n  \"files\": [")))

-- ---- all of it
abbrev pub text_of : GridStep → Offset → List File → List ℕ
text_of step offset fs = grid_text step offset ++ (files_text fs ++ codes "\n  ]\n}\n")

-- the text of the scene with this grid, which has the step in lowest terms
pub record IsSceneText (g : Grid) (names : List (List ℕ)) (counts : List Counts) (moves : List Length)
    (text : List ℕ) : Type 0 where
  pub lowest : GridStep
  pub is_lowest : IsInLowestTerms g.step lowest
  pub is_text : text ≡ text_of lowest g.offset (files_of names counts moves)
