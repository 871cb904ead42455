-- Rows of an OBJ file whose lines are words
use Rattle.std.proofs.Common.{◌≡◌, ℕ, ◌+◌, ◌-◌, false, ◌&&◌, ◌==◌, List, [], ◌∷◌, ◌++◌, length, drop, refl, ap, ◌∙◌, arith}
use Rattle.std.specs.Prelude.{All, nat_eq, not, if◌then◌else◌}
use Rattle.std.specs.List.{ends_with, list_any}
use lib.Pointwise.{pointwise}
use Rattle.std.proofs.lemmas.Bool.Decides.{nat_tests}
use Rattle.std.proofs.lemmas.List.Elements.{All-head, All-weaker, All-drop}
use Rattle.mesh_write.specs.Text.Texts.{obj_header}
use Rattle.ember_obj.specs.Lines.{without_return, is_continued, is_hash as is_comment}
use Rattle.mesh_read.specs.Scan.Parts.{Piece, words_from, words_of, lines_from, uncommented}
use Rattle.mesh_read.specs.Wavefront.Rows.{Row, goes_on, without_backslash, words_on, joined_to, rows_from, rows_of}
use Rattle.mesh_write.proofs.Lines.{IsWord, IsInLine, spaced, joined, piece, joined_in_line, line_of_words, line_uncommented}

-- ---- ends of lines
last_differs : (c : ℕ) (ys : List ℕ) → All (λ b. b == c ≡ false) ys → pointwise nat_eq (c ∷ []) ys ≡ false
last_differs c [] h = refl
last_differs c (y ∷ ys) h = ap (λ b. b && pointwise nat_eq [] ys) (turned y c (All-head (λ b. b == c ≡ false) y ys h))
  where
    turned : (y c : ℕ) → y == c ≡ false → nat_eq c y ≡ false
    turned y c h = grind (arith, nat_tests)

ends_otherwise : (c : ℕ) (line : List ℕ) → All (λ b. b == c ≡ false) line → ends_with nat_eq line (c ∷ []) ≡ false
ends_otherwise c line h = last_differs c (drop (length line - 1) line) (All-drop (λ b. b == c ≡ false) (length line - 1) line h)

kept_return : (line : List ℕ) → All IsInLine line → without_return line ≡ line
kept_return line h =
    rw (ends_otherwise 13 line (All-weaker IsInLine (λ b. b == 13 ≡ false) (λ b k. k.no_return) line h)) refl

line_ends : (s : ℕ) (line : List ℕ) → All IsInLine line → goes_on (piece s line) ≡ false
line_ends s line h =
    ap is_continued (kept_return line h)
    ∙ ap (λ b. b && not (list_any is_comment line)) (ends_otherwise 92 line (All-weaker IsInLine (λ b. b == 92 ≡ false) (λ b k. k.no_backslash) line h))

-- ---- rows
-- the row of a line of these words
abbrev pub row_at : ℕ → ℕ → List ℕ → List (List ℕ) → Row
row_at n s w ws = record { line = n; words = words_from s (joined w ws) [] }

whole_line : (n s : ℕ) (line : List ℕ) (lines : List Piece) → All IsInLine line →
    rows_from n (piece s line ∷ lines) ≡ record { line = n; words = words_from s line [] } ∷ rows_from (n + 1) lines
whole_line n s line lines h =
    let none = line_ends s line h in
    let later = rows_from (n + 1) lines in
    let kept : words_on (piece s line) ≡ words_from s line [] =
    ap (λ b. words_of (if b then without_backslash (piece s line) else uncommented (piece s line))) none ∙ ap words_of (line_uncommented s line h) in
    ap (λ b. if b then joined_to n (words_on (piece s line)) later else record { line = n; words = words_on (piece s line) } ∷ later) none
    ∙ ap (λ (l : List Piece). record { line = n; words = l } ∷ later) kept

pub row_of_words : (n s : ℕ) (w : List ℕ) (ws : List (List ℕ)) (rest : List ℕ) → IsWord w → All IsWord ws
    → rows_from n (lines_from s ((w ++ spaced ws (10 ∷ [])) ++ rest)) ≡ row_at n s w ws ∷ rows_from (n + 1) (lines_from (s + length (joined w ws) + 1) rest)
row_of_words n s w ws rest h hs =
    ap (λ l. rows_from n l) (line_of_words s w ws rest h hs)
    ∙ whole_line n s (joined w ws) (lines_from (s + length (joined w ws) + 1) rest) (joined_in_line w ws h hs)

-- the comment at the beginning is a row without words
pub comment_row : (rest : List ℕ) → rows_of (obj_header ++ rest) ≡ record { line = 1; words = [] } ∷ rows_from 2 (lines_from 43 rest)
comment_row rest = refl
