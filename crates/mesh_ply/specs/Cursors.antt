-- What is left of a file after its header
use Rattle.std.specs.Prelude.{ℕ, List, [], ◌∷◌, take, drop, length, nat_le, if◌then◌else◌, Option, None, Some}
use Rattle.mesh_read.specs.Scan.Parts.{Piece, words_of, lines_from}
use Rattle.mesh_ply.specs.declared.declarations.ScalarType.{ScalarType}
use Rattle.mesh_ply.specs.declared.declarations.ByteOrder.{ByteOrder}
use Rattle.mesh_ply.specs.declared.declarations.Encoding.{Encoding}
use Rattle.mesh_ply.specs.declared.declarations.Encoding.TheVariants.{Ascii, Binary}
use Rattle.mesh_ply.specs.Scalars.{Scalar, Word, width_of, scalar_of_bytes}

-- the words that are left of a row, with the rows after it, or the bytes that are left
pub data Cursor : Type 0 where
  Words : List Piece → List (List Piece) → Cursor
  Bytes : ByteOrder → List ℕ → Cursor

abbrev pub row_before : List Piece → List (List Piece) → List (List Piece)
row_before [] rows = rows
row_before (word ∷ words) rows = (word ∷ words) ∷ rows

-- the rows of lines: those that have a word
abbrev pub rows_of : List Piece → List (List Piece)
rows_of [] = []
rows_of (line ∷ lines) = row_before (words_of line) (rows_of lines)

-- the beginning of what follows the header
abbrev pub begun : Encoding → List ℕ → Cursor
begun Ascii bytes = Words [] (rows_of (lines_from 0 bytes))
begun (Binary order) bytes = Bytes order bytes

-- the beginning of the next row
abbrev pub next_row : Cursor → Option Cursor
next_row (Words words []) = None
next_row (Words words (row ∷ rows)) = Some (Words row rows)
next_row (Bytes order bytes) = Some (Bytes order bytes)

abbrev pub next_of_bytes : ScalarType → ByteOrder → List ℕ → Option (Scalar × Cursor)
next_of_bytes type order bytes =
    if nat_le (width_of type) (length bytes)
    then Some (scalar_of_bytes type order (take (width_of type) bytes), Bytes order (drop (width_of type) bytes))
    else None

-- the next scalar of a row, and what is left after it
abbrev pub next_scalar : ScalarType → Cursor → Option (Scalar × Cursor)
next_scalar type (Words [] rows) = None
next_scalar type (Words (word ∷ words) rows) = Some (Word word.text, Words words rows)
next_scalar type (Bytes order bytes) = next_of_bytes type order bytes
