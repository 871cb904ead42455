-- Words and lines that are joined
use Rattle.std.proofs.Common.{◌≡◌, ℕ, true, false, ◌<◌, ◌+◌, List, [], ◌∷◌, ◌++◌, length, map, refl, sym, ap, ◌∙◌, append_assoc, arith}
use Rattle.std.specs.Prelude.{if◌then◌else◌, ◌==◌}
use Rattle.std.proofs.lemmas.List.{append-nil, map-append}
use Rattle.mesh_read.specs.declared.scan.part.Part.{Part}
use Rattle.mesh_read.specs.Scan.Parts.{Piece, piece_of, before_lines, lines_from}
use Rattle.mesh_read.specs.Wavefront.Rows.{Row, goes_on, words_on, joined_to, rows_from}

-- a word more is read
pub words_more : (all : List Piece) (items new : List Part) (word : Part) (words more : List Piece) →
    all ≡ map piece_of items ++ words → words ≡ piece_of word ∷ more → new ≡ items ++ word ∷ [] →
    all ≡ map piece_of new ++ more
words_more all items new word words more so_far is n =
    so_far
    ∙ ap (λ ws. map piece_of items ++ ws) is
    ∙ sym (append_assoc (map piece_of items) (piece_of word ∷ []) more)
    ∙ ap (λ ws. ws ++ more) (sym (map-append piece_of items (word ∷ [])) ∙ ap (map piece_of) (sym n))

-- no word is left
pub words_end : (all : List Piece) (items : List Part) (words : List Piece) → all ≡ map piece_of items ++ words → words ≡ [] → all ≡ map piece_of items
words_end all items words so_far none = so_far ∙ ap (λ ws. map piece_of items ++ ws) none ∙ append-nil (map piece_of items)

joined_twice : (line next : ℕ) (xs ys : List Piece) (rows : List Row) → joined_to line xs (joined_to next ys rows) ≡ joined_to line (xs ++ ys) rows
joined_twice line next xs ys [] = refl
joined_twice line next xs ys (row ∷ rows) = ap (λ zs. record { line = line; words = zs } ∷ rows) (sym (append_assoc xs ys row.words))

-- a physical line that the next one is joined to
pub row_goes_on : (all : List Row) (number next : ℕ) (words new : List Piece) (line : Piece) (lines more : List Piece) →
    all ≡ joined_to number words (rows_from next lines) → lines ≡ line ∷ more → goes_on line ≡ true →
    new ≡ words ++ words_on line → all ≡ joined_to number new (rows_from (next + 1) more)
row_goes_on all number next words new line lines more so_far is joined n =
    let first : rows_from next (line ∷ more) ≡ joined_to next (words_on line) (rows_from (next + 1) more) = rw joined refl in
    so_far
    ∙ ap (λ ls. joined_to number words (rows_from next ls)) is
    ∙ ap (joined_to number words) first
    ∙ joined_twice number next words (words_on line) (rows_from (next + 1) more)
    ∙ ap (λ ws. joined_to number ws (rows_from (next + 1) more)) (sym n)

-- a physical line that ends the row
pub row_ends : (all : List Row) (number next : ℕ) (words new : List Piece) (line : Piece) (lines more : List Piece) →
    all ≡ joined_to number words (rows_from next lines) → lines ≡ line ∷ more → goes_on line ≡ false →
    new ≡ words ++ words_on line → all ≡ record { line = number; words = new } ∷ rows_from (next + 1) more
row_ends all number next words new line lines more so_far is ends n =
    let first : rows_from next (line ∷ more) ≡ record { line = next; words = words_on line } ∷ rows_from (next + 1) more = rw ends refl in
    so_far
    ∙ ap (λ ls. joined_to number words (rows_from next ls)) is
    ∙ ap (joined_to number words) first
    ∙ ap (λ ws. record { line = number; words = ws } ∷ rows_from (next + 1) more) (sym n)

-- the file ends
pub row_ends_file : (all : List Row) (number next : ℕ) (words : List Piece) (lines : List Piece) →
    all ≡ joined_to number words (rows_from next lines) → lines ≡ [] →
    all ≡ record { line = number; words = words } ∷ rows_from next lines
row_ends_file all number next words lines so_far none =
    so_far
    ∙ ap (λ ls. joined_to number words (rows_from next ls)) none
    ∙ ap (λ ls. record { line = number; words = words } ∷ rows_from next ls) (sym none)

first_row : (number : ℕ) (line : Piece) (lines : List Piece) → joined_to number [] (rows_from number (line ∷ lines)) ≡ rows_from number (line ∷ lines)
first_row number line lines =
    let rest : List Row = rows_from (number + 1) lines in
    let alone : List Row = record { line = number; words = words_on line } ∷ rest in
    elim (goes_on line) as (λ t. joined_to number [] (if t then joined_to number (words_on line) rest else alone)
    ≡ (if t then joined_to number (words_on line) rest else alone)) [
      | true ↦ joined_twice number number [] (words_on line) rest
      | false ↦ refl
    ]

first_row_before : (number s b : ℕ) (lines : List Piece) →
    joined_to number [] (rows_from number (before_lines s b lines)) ≡ rows_from number (before_lines s b lines)
first_row_before number s b [] = first_row number (record { start = s; text = b ∷ [] }) []
first_row_before number s b (line ∷ lines) = first_row number (record { start = s; text = b ∷ line.text }) lines

-- the first row has the number of the first line
pub first_row_number : (number s : ℕ) (text : List ℕ) → 0 < length text →
    joined_to number [] (rows_from number (lines_from s text)) ≡ rows_from number (lines_from s text)
first_row_number number s [] some = absurd (omega arith)
first_row_number number s (b ∷ bs) some =
    let ended : List Piece = record { start = s; text = [] } ∷ lines_from (s + 1) bs in
    let longer : List Piece = before_lines s b (lines_from (s + 1) bs) in
    elim (b == 10) as (λ t. joined_to number [] (rows_from number (if t then ended else longer)) ≡ rows_from number (if t then ended else longer)) [
      | true ↦ first_row number (record { start = s; text = [] }) (lines_from (s + 1) bs)
      | false ↦ first_row_before number s b (lines_from (s + 1) bs)
    ]

line_before : (s b : ℕ) (lines : List Piece) → before_lines s b lines ≡ [] → length (b ∷ []) ≡ 0
line_before s b [] e = cc
line_before s b (line ∷ lines) e = cc

-- a text without lines is empty
pub no_lines : (s : ℕ) (text : List ℕ) → lines_from s text ≡ [] → length text ≡ 0
no_lines s [] none = refl
no_lines s (b ∷ bs) none =
    let ended : List Piece = record { start = s; text = [] } ∷ lines_from (s + 1) bs in
    let longer : List Piece = before_lines s b (lines_from (s + 1) bs) in
    elim (b == 10) as (λ t. (if t then ended else longer) ≡ [] → length (b ∷ bs) ≡ 0) [
      | true ↦ λ e. (cc)
      | false ↦ λ e. let never : length (b ∷ []) ≡ 0 = line_before s b (lines_from (s + 1) bs) e in absurd (omega (arith, never))
    ] none
