-- Rows of an OFF file whose lines are words
use Rattle.std.proofs.Common.{◌≡◌, ℕ, ◌+◌, List, [], ◌∷◌, ◌++◌, length, refl, ap, ◌∙◌}
use Rattle.std.specs.Prelude.{All}
use Rattle.mesh_read.specs.Scan.Parts.{Piece, words_from, words_of, lines_from}
use Rattle.mesh_read.specs.Off.Rows.{Words, with_row, rows_from}
use Rattle.mesh_write.proofs.Lines.{IsWord, spaced, joined, texts, joined_in_line, joined_words, line_of_words, line_uncommented}

-- the row of a line of these words
abbrev pub row_at : ℕ → ℕ → List ℕ → List (List ℕ) → Words
row_at n s w ws = record { line = n; words = words_from s (joined w ws) [] }

some_words : (n : ℕ) (words : List Piece) (w : List ℕ) (ws : List (List ℕ)) (rows : List Words) → texts words ≡ w ∷ ws →
    with_row n words rows ≡ record { line = n; words = words } ∷ rows
some_words n [] w ws rows e = absurd (cc)
some_words n (x ∷ xs) w ws rows e = refl

pub row_of_words : (n s : ℕ) (w : List ℕ) (ws : List (List ℕ)) (rest : List ℕ) → IsWord w → All IsWord ws
    → rows_from n (lines_from s ((w ++ spaced ws (10 ∷ [])) ++ rest)) ≡ row_at n s w ws ∷ rows_from (n + 1) (lines_from (s + length (joined w ws) + 1) rest)
row_of_words n s w ws rest h hs =
    let later = rows_from (n + 1) (lines_from (s + length (joined w ws) + 1) rest) in
    ap (λ l. rows_from n l) (line_of_words s w ws rest h hs)
    ∙ ap (λ (x : Piece). with_row n (words_of x) later) (line_uncommented s (joined w ws) (joined_in_line w ws h hs))
    ∙ some_words n (words_from s (joined w ws) []) w ws later (joined_words s w ws h hs)
