-- The header of a PLY text, line by line
use Rattle.std.proofs.Common.{◌≡◌, ℕ, List, [], ◌∷◌, ◌++◌, Some, None, Result, Ok, Err, refl, codes}
use Rattle.mesh_ply.specs.declared.fault.PlyFault.{PlyFault}
use Rattle.mesh_ply.specs.Header.{Header, kind_named, encoding_named, counted, entry_of, nothing_declared, behind_entry, header_from}
use Rattle.mesh_read.specs.Scan.Parts.{Piece, lines_from}
use Rattle.mesh_write.proofs.Lines.{piece}

abbrev header_in : Result (Header × ℕ) PlyFault → Header
header_in (Err fault) = nothing_declared
header_in (Ok h) = h.0

-- a header with a line of these words
abbrev pub with_line : Header → List Piece → Header
with_line header words = header_in (behind_entry 0 header (entry_of header.kind words) (λ h. Ok (h, 0)))

-- a header with an element of this name and this number of rows
abbrev pub with_element : Header → Piece → ℕ → Header
with_element header name count = header_in (behind_entry 0 header (counted name (Some count)) (λ h. Ok (h, 0)))

abbrev axis_words : List ℕ → List Piece
axis_words axis = piece 0 (codes "property") ∷ piece 0 (codes "double") ∷ piece 0 axis ∷ []

abbrev list_words : List Piece
list_words = piece 0 (codes "property") ∷ piece 0 (codes "list") ∷ piece 0 (codes "uchar") ∷ piece 0 (codes "int") ∷ piece 0 (codes "vertex_indices") ∷ []

abbrev pub with_axes : Header → Header
with_axes h = with_line (with_line (with_line h (axis_words (codes "x"))) (axis_words (codes "y"))) (axis_words (codes "z"))

abbrev pub with_corners : Header → Header
with_corners h = with_line h list_words

-- these declarations, after an element with this name
abbrev pub behind_element : List ℕ → Header → Header
behind_element name h = record { encoding = encoding_named (codes "ascii"); kind = Some (kind_named name); declarations = h.declarations }

abbrev pub format_declared : Header
format_declared = record { encoding = encoding_named (codes "ascii"); kind = None; declarations = [] }

-- ---- lines without numbers
pub format_lines : (rest : List ℕ) → header_from 1 nothing_declared
    (lines_from 0 (codes "ply\nformat ascii 1.0\ncomment ember-mesh: rounded from an exact result\n" ++ rest))
    ≡ header_from 4 format_declared (lines_from 70 rest)
format_lines rest = refl

pub axis_lines : (h : Header) (s : ℕ) (rest : List ℕ) →
    (next : ℕ) × (header_from 5 (behind_element (codes "vertex") h)
    (lines_from s (codes "property double x\nproperty double y\nproperty double z\n" ++ rest)) ≡ header_from 8
    (with_axes (behind_element (codes "vertex") h)) (lines_from next rest))
axis_lines h s rest = (_, refl)

pub last_lines : (h : Header) (s : ℕ) (rest : List ℕ) →
    header_from 9 (behind_element (codes "face") h)
    (lines_from s (codes "property list uchar int vertex_indices\nend_header\n" ++ rest)) ≡ Ok
    (with_corners (behind_element (codes "face") h), 10)
last_lines h s rest = refl
