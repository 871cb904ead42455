-- The limits, by name
use Rattle.std.specs.Prelude.{ℕ}

-- cells along an axis: 2^12
abbrev pub most_cells : ℕ
most_cells = 4096

-- columns of cells: 2^24
abbrev pub most_columns : ℕ
most_columns = 16777216
