-- The rows that code has in hand
use Rattle.std.specs.Prelude.{ℕ, List, map}
use Rattle.mesh_read.specs.declared.scan.part.Part.{Part}
use Rattle.mesh_read.specs.Scan.Parts.{piece_of, lines_in}
use Rattle.mesh_read.specs.declared.wavefront.rows.Rows.{Rows}
use Rattle.mesh_read.specs.Wavefront.Rows as rows

-- a row as definitions see it
abbrev pub row_of : ℕ → List Part → rows.Row
row_of line words = record { line = line; words = map piece_of words }

-- the rows that are left, as definitions see them
abbrev pub rows_in : Rows → List rows.Row
rows_in r = rows.rows_from r.number (lines_in r.rest)
