-- A page: its fixed parts, the title, the names of files, and in base64 the corners of triangles and the numbers of their
-- files
use Rattle.std.specs.Prelude.{ℕ, ◌==◌, nat_lt, List, [], ◌∷◌, ◌++◌, codes, flat_map, map, if◌then◌else◌}
use Rattle.base64.specs.Engines.{standard}
use Rattle.base64.specs.GeneralPurpose.{encode_of}
use Rattle.mesh_write.specs.Glb.Written.{corner_bytes}
use Rattle.mesh_write.specs.declared.stl.triangle.FloatTriangle.{FloatTriangle}
use Rattle.mesh_info.specs.declared.page.head.TheConstants.{HEAD, PANEL, CONTROLS, FILES}
use Rattle.mesh_info.specs.declared.page.counts.TheConstants.{COUNTS}
use Rattle.mesh_info.specs.declared.page.drawing.TheConstants.{DRAWING}

-- a byte of a text as HTML spells it: & (38), < (60) and > (62) by their names
abbrev pub escaped_byte : ℕ → List ℕ
escaped_byte b =
    if b == 38 then codes "&amp;"
    else (if b == 60 then codes "&lt;"
    else (if b == 62 then codes "&gt;"
    else b ∷ []))

abbrev pub escaped : List ℕ → List ℕ
escaped text = flat_map escaped_byte text

-- a name as an item of a list
abbrev pub item_text : List ℕ → List ℕ
item_text name = codes "<li>" ++ (escaped name ++ codes "</li>")

-- the corners of the triangles, in order, in base64
abbrev pub numbers_text : List FloatTriangle → List ℕ
numbers_text ts = encode_of standard (flat_map corner_bytes ts)

-- the number of a file as a byte; 0 if it doesn't fit
abbrev pub file_byte : ℕ → ℕ
file_byte number = if nat_lt number 256 then number else 0

-- the numbers of their files, in base64
abbrev pub files_text : List ℕ → List ℕ
files_text files = encode_of standard (map file_byte files)

-- what stands before the corners
abbrev pub front_of : List ℕ → List (List ℕ) → List ℕ
front_of title names = HEAD.now ++ (escaped title ++ (PANEL.now ++ (flat_map item_text names ++ CONTROLS.now)))

-- the corners, the numbers of their files, and the script
abbrev pub back_of : List ℕ → List ℕ → List ℕ
back_of corners files = corners ++ (FILES.now ++ (files ++ (COUNTS.now ++ DRAWING.now)))

-- the page under this title that has these names of files, and these triangles with the numbers of their files
abbrev pub page_of : List ℕ → List (List ℕ) → List FloatTriangle → List ℕ → List ℕ
page_of title names ts files = front_of title names ++ back_of (numbers_text ts) (files_text files)
