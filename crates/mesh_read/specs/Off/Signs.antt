-- By what a file shows that it is an OFF file
use Rattle.std.specs.Prelude.{ℕ, Bool, false, ◌||◌, List, [], ◌∷◌}
use Rattle.mesh_read.specs.Scan.Parts.{Piece}
use Rattle.mesh_read.specs.Off.Keywords.{is_keyword, is_homogeneous, is_count}
use Rattle.mesh_read.specs.Off.Rows.{Words, rows_of}

-- the first of these words is of a kind
abbrev pub is_first : (List ℕ → Bool) → List Piece → Bool
is_first kind [] = false
is_first kind (word ∷ words) = kind word.text

-- the first word of these rows is of a kind
abbrev pub is_first_in : (List ℕ → Bool) → List Words → Bool
is_first_in kind [] = false
is_first_in kind (row ∷ rows) = is_first kind row.words

-- the first word is one with which OFF files begin, also those that aren't read
abbrev pub is_off : List ℕ → Bool
is_off bytes = is_first_in (λ w. is_keyword w || is_homogeneous w) (rows_of bytes)

-- the first word is a natural number
abbrev pub begins_with_count : List ℕ → Bool
begins_with_count bytes = is_first_in is_count (rows_of bytes)
