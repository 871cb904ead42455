-- What the bytes of an OBJ file mean: points and triangles, or the first fault
use Rattle.std.specs.Prelude.{ℕ, ◌-◌, Bool, ◌&&◌, List, [], ◌∷◌, ◌++◌, if◌then◌else◌, ◌==◌, nat_lt}
use Rattle.std.specs.Prelude.{nat_le, length, Option, None, Some, Result, Ok, Err}
use Rattle.ember_dec.specs.Digits.{number_from}
use Rattle.ember_dec.specs.Decimal.{is_minus}
use Rattle.mesh_number.specs.Number.Fractions.{Fraction}
use Rattle.mesh_number.specs.Number.Texts.{value_of_text}
use Rattle.ember_obj.specs.References.{is_slash, is_number, size_digits}
use Rattle.ember_obj.specs.Scan.{before}
use Rattle.mesh_read.specs.Scan.Parts.{Piece, first_three}
use Rattle.mesh_read.specs.declared.surface.surface.Facet.{Facet}
use Rattle.mesh_read.specs.Surface.Surfaces.{Point, Content, point_of_three, fan}
use Rattle.mesh_read.specs.Surface.Flaws.{as_mesh}
use Rattle.mesh_read.specs.declared.wavefront.reading.Keyword.{Keyword}
use Rattle.mesh_read.specs.declared.wavefront.reading.Keyword.TheVariants.{Vertex, Face, Other}
use Rattle.mesh_read.specs.Wavefront.Faults.{Fault, FewCoordinates, NotANumber, UnknownVertex, FewCorners}
use Rattle.mesh_read.specs.Wavefront.Faults.{of_flaw}
use Rattle.mesh_read.specs.Wavefront.Rows.{Row, rows_of}

-- ---- vertices
abbrev pub coordinate_or_fault : ℕ → Piece → Option Fraction → Result Fraction Fault
coordinate_or_fault line word None = Err (NotANumber line word.text)
coordinate_or_fault line word (Some v) = Ok v

-- a coordinate in a line
abbrev pub coordinate_in : ℕ → Piece → Result Fraction Fault
coordinate_in line word = coordinate_or_fault line word (value_of_text word.text)

abbrev pub point_of_words : ℕ → Option (Piece × Piece × Piece) → Result Point Fault
point_of_words line None = Err (FewCoordinates line)
point_of_words line (Some t) = point_of_three (coordinate_in line t.0) (coordinate_in line t.1) (coordinate_in line t.2)

-- the point of the words after `v`
abbrev pub point_in : ℕ → List Piece → Result Point Fault
point_in line words = point_of_words line (first_three words)

-- ---- faces
-- the index of the vertex with this number, counted from 1, or back from the last of n
abbrev pub counted : ℕ → Bool → ℕ → Option ℕ
counted vertices back number =
    if nat_lt 0 number && nat_le number vertices
    then Some (if back then vertices - number else number - 1)
    else None

-- the index of the vertex that a number names: with a minus it counts back
abbrev pub vertex_at : ℕ → List ℕ → Option ℕ
vertex_at vertices number =
    if is_number (size_digits number)
    then counted vertices (is_minus number) (number_from 0 (size_digits number))
    else None

-- the vertex that a reference names by the bytes before its first slash
abbrev pub vertex_named : ℕ → Piece → Option ℕ
vertex_named vertices reference = vertex_at vertices (before is_slash reference.text)

abbrev pub corner_or_fault : ℕ → Piece → Option ℕ → Result ℕ Fault
corner_or_fault line reference None = Err (UnknownVertex line reference.text)
corner_or_fault line reference (Some corner) = Ok corner

-- the vertex that a reference of a line names, or its fault
abbrev pub corner_in : ℕ → ℕ → Piece → Result ℕ Fault
corner_in line vertices reference = corner_or_fault line reference (vertex_named vertices reference)

-- corners in front of those that follow, unless there is a fault
abbrev pub in_front : List ℕ → Result (List ℕ) Fault → Result (List ℕ) Fault
in_front corners (Err fault) = Err fault
in_front corners (Ok more) = Ok (corners ++ more)

abbrev pub with_corner : Result ℕ Fault → Result (List ℕ) Fault → Result (List ℕ) Fault
with_corner (Err fault) more = Err fault
with_corner (Ok corner) more = in_front (corner ∷ []) more

-- the vertices that references name, or the fault of the first that names none
abbrev pub corners_of : ℕ → ℕ → List Piece → Result (List ℕ) Fault
corners_of line vertices [] = Ok []
corners_of line vertices (reference ∷ references) =
    with_corner (corner_in line vertices reference) (corners_of line vertices references)

-- the triangles of a face with these corners, of which there are at least three
abbrev pub fan_or_fault : ℕ → Result (List ℕ) Fault → Result (List Facet) Fault
fan_or_fault line (Err fault) = Err fault
fan_or_fault line (Ok corners) = if nat_lt (length corners) 3 then Err (FewCorners line) else Ok (fan line corners)

-- the triangles of the references after `f`, with n vertices before the line
abbrev pub facets_in : ℕ → ℕ → List Piece → Result (List Facet) Fault
facets_in line vertices references = fan_or_fault line (corners_of line vertices references)

-- ---- rows in order, up to the first fault
-- `v`, `f` or another keyword
abbrev pub keyword_of : List ℕ → Keyword
keyword_of [] = Other
keyword_of (b ∷ []) = if b == 118 then Vertex else if b == 102 then Face else Other
keyword_of (b ∷ c ∷ more) = Other

abbrev pub with_point : Content → Result Point Fault → Result Content Fault
with_point content (Err fault) = Err fault
with_point content (Ok point) = Ok (record content { points = content.points ++ point ∷ [] })

abbrev pub with_facets : Content → Result (List Facet) Fault → Result Content Fault
with_facets content (Err fault) = Err fault
with_facets content (Ok facets) = Ok (record content { facets = content.facets ++ facets })

-- what is read after a line with this keyword and these words
abbrev pub after_keyword : ℕ → Content → Keyword → List Piece → Result Content Fault
after_keyword line content Vertex words = with_point content (point_in line words)
after_keyword line content Face words = with_facets content (facets_in line (length content.points) words)
after_keyword line content Other words = Ok content

-- what is read after a line with these words
abbrev pub after_words : ℕ → Content → List Piece → Result Content Fault
after_words line content [] = Ok content
after_words line content (word ∷ words) = after_keyword line content (keyword_of word.text) words

-- what is read after all these rows: a fault stays the file's fault
abbrev pub after_rows : Result Content Fault → List Row → Result Content Fault
after_rows so_far [] = so_far
after_rows (Err fault) (row ∷ rows) = Err fault
after_rows (Ok content) (row ∷ rows) = after_rows (after_words row.line content row.words) rows

-- the content of these rows, whether it is a mesh or not
abbrev pub content_in : List Row → Result Content Fault
content_in rows = after_rows (Ok (record { points = []; facets = [] })) rows

-- what a file says, or its first fault
abbrev pub read_wavefront_of : List ℕ → Result Content Fault
read_wavefront_of bytes = as_mesh of_flaw (content_in (rows_of bytes))
