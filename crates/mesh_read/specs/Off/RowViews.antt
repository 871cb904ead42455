-- The rows that code has in hand
use Rattle.std.specs.Prelude.{List, ◌∷◌}
use Rattle.mesh_read.specs.Scan.Parts.{piece_of, lines_in, words_in}
use Rattle.mesh_read.specs.declared.off.row.Row.{Row}
use Rattle.mesh_read.specs.declared.off.row.Rows.{Rows}
use Rattle.mesh_read.specs.Off.Rows as rows

-- a row as definitions see it
abbrev pub words_of_row : Row → rows.Words
words_of_row row = record { line = row.line; words = piece_of row.first ∷ words_in row.others }

-- the rows that are left, as definitions see them
abbrev pub rows_in : Rows → List rows.Words
rows_in r = rows.rows_from r.number (lines_in r.rest)
