-- The rows of an OFF file: its lines without comments that have a word
use Rattle.std.specs.Prelude.{ℕ, ◌+◌, List, [], ◌∷◌}
use Rattle.mesh_read.specs.Scan.Parts.{Piece, lines_of_file, uncommented, words_of}

-- the number of a line, and its words
pub record Words : Type 0 where
  pub line : ℕ
  pub words : List Piece

-- a line in front of the rows, if it has a word
abbrev pub with_row : ℕ → List Piece → List Words → List Words
with_row number [] rows = rows
with_row number (word ∷ words) rows = record { line = number; words = word ∷ words } ∷ rows

-- the rows of these lines; the first line has this number
abbrev pub rows_from : ℕ → List Piece → List Words
rows_from number [] = []
rows_from number (line ∷ lines) = with_row number (words_of (uncommented line)) (rows_from (number + 1) lines)

-- the rows of a file
abbrev pub rows_of : List ℕ → List Words
rows_of bytes = rows_from 1 (lines_of_file bytes)
