-- The scalars and the cursors that code has in hand
use Rattle.std.specs.Prelude.{ℕ, ◌+◌, length}
use Rattle.mesh_read.specs.Scan.Parts.{words_in, lines_in}
use Rattle.mesh_ply.specs.declared.scalars.Scalar as code_scalar
use Rattle.mesh_ply.specs.declared.scalars.Scalar.TheVariants as held
use Rattle.mesh_ply.specs.declared.cursor.Cursor as code_cursor
use Rattle.mesh_ply.specs.declared.cursor.Cursor.TheVariants as at
use Rattle.mesh_ply.specs.Scalars.{Scalar, Word, Whole, Single, Double}
use Rattle.mesh_ply.specs.Cursors.{Cursor, Words, Bytes, rows_of}

-- a scalar as definitions see it
abbrev pub scalar_of : code_scalar.Scalar → Scalar
scalar_of (held.Word text) = Word text.now
scalar_of (held.Whole number) = Whole number
scalar_of (held.Single bits) = Single bits
scalar_of (held.Double bits) = Double bits

-- a cursor as definitions see it
abbrev pub cursor_of : code_cursor.Cursor → Cursor
cursor_of (at.Words row later) = Words (words_in row) (rows_of (lines_in later))
cursor_of (at.Bytes order bytes) = Bytes order bytes.now

-- how many bytes are left
abbrev pub left_at : code_cursor.Cursor → ℕ
left_at (at.Words row later) = length row.bytes.now + length later.bytes.now
left_at (at.Bytes order bytes) = length bytes.now
