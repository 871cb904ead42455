-- The lines of files, from the first on.
use Rattle.std.proofs.Common.{◌≡◌, ℕ, suc, ◌+◌, ◌<◌, List, ◌∷◌, ◌++◌, length, drop, get_or, drop-cons, drop-drop, sym, ap, ◌∙◌, arith, append_assoc}
use Rattle.mesh_grid.specs.declared.moves.length.Length.{Length}
use Rattle.mesh_grid.specs.Moves.Shown.{Rounded}
use Rattle.mesh_scene.specs.declared.scene.counts.Counts.{Counts}
use Rattle.mesh_report.specs.Reports.{counts_line, counts_lines, first_move}

-- the line of a file comes before those of the files after it
first_line : (names : List (List ℕ)) (counts : List Counts) (moves : List Length) (i f : ℕ) (name : List ℕ) (c : Counts)
    → i < length names → name ≡ get_or names i name → f < length counts → c ≡ get_or counts f c →
    counts_lines (drop i names) (drop f counts) (drop f moves) ≡ counts_line name c (first_move (drop f moves))
    ++ counts_lines (drop (i + 1) names) (drop (f + 1) counts) (drop (f + 1) moves)
first_line names counts moves i f name c inside is there found =
    let next_name : suc i ≡ i + 1 = omega arith in
    let next_count : suc f ≡ f + 1 = omega arith in
    let left : drop i names ≡ name ∷ drop (i + 1) names =
    drop-cons names i name inside ∙ ap (λ (n : List ℕ). n ∷ drop (suc i) names) (sym is) ∙ ap (λ (k : ℕ). name ∷ drop k names) next_name in
    let right : drop f counts ≡ c ∷ drop (f + 1) counts =
    drop-cons counts f c there ∙ ap (λ (k : Counts). k ∷ drop (suc f) counts) (sym found) ∙ ap (λ (k : ℕ). c ∷ drop k counts) next_count in
    let later : drop 1 (drop f moves) ≡ drop (f + 1) moves = drop-drop 1 f moves in
    ap (λ (ns : List (List ℕ)). counts_lines ns (drop f counts) (drop f moves)) left
    ∙ ap (λ (cs : List Counts). counts_lines (name ∷ drop (i + 1) names) cs (drop f moves)) right
    ∙ ap (λ (ms : List Length). counts_line name c (first_move (drop f moves)) ++ counts_lines (drop (i + 1) names) (drop (f + 1) counts) ms) later

-- so all lines are still those that are written and those to come
pub one_line_more : (names : List (List ℕ)) (counts : List Counts) (moves : List Length) (i f : ℕ) (name : List ℕ)
    (c : Counts) (moved : Rounded) (all old new : List ℕ) → i < length names → name ≡ get_or names i name →
    f < length counts → c ≡ get_or counts f c → moved ≡ first_move (drop f moves) →
    all ≡ old ++ counts_lines (drop i names) (drop f counts) (drop f moves) → new ≡ old ++ counts_line name c moved →
    all ≡ new ++ counts_lines (drop (i + 1) names) (drop (f + 1) counts) (drop (f + 1) moves)
one_line_more names counts moves i f name c moved all old new inside is there found first before put =
    let rest = counts_lines (drop (i + 1) names) (drop (f + 1) counts) (drop (f + 1) moves) in
    let said = put ∙ ap (λ (r : Rounded). old ++ counts_line name c r) first in
    before
    ∙ ap (λ (xs : List ℕ). old ++ xs) (first_line names counts moves i f name c inside is there found)
    ∙ sym (append_assoc old (counts_line name c (first_move (drop f moves))) rest)
    ∙ ap (λ (xs : List ℕ). xs ++ rest) (sym said)
