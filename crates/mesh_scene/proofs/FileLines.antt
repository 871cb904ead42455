-- The lines of files
use Rattle.std.proofs.Common.{◌≡◌, ℕ, zero, suc, ◌+◌, ◌<◌, ◌≤◌, Bool, cond, List, [], ◌∷◌, ◌++◌, length, take, get_or}
use Rattle.std.proofs.Common.{sym, ap, ◌∙◌, arith, append_assoc, append-nil}
use Rattle.std.specs.Prelude.{codes}
use Rattle.std.specs.List.{zip}
use Rattle.std.proofs.lemmas.Bool.{ne_eqb}
use Rattle.std.proofs.lemmas.List.{take_all}
use Rattle.std.proofs.lemmas.Slice.Zip.{get_or-zip, length-zip}
use Rattle.mesh_grid.specs.declared.moves.length.Length.{Length}
use Rattle.mesh_scene.specs.declared.scene.counts.Counts.{Counts}
use Rattle.mesh_scene.specs.SceneFile.Texts.{File, files_of, separator, file_text, file_line, files_text}

-- the lines of further files, each behind a comma (44)
abbrev pub next_lines : List File → List ℕ
next_lines [] = []
next_lines (f ∷ fs) = 44 ∷ (file_line f ++ next_lines fs)

pub joined : (f : File) (fs : List File) → files_text (f ∷ fs) ≡ file_line f ++ next_lines fs
joined f [] = sym (append-nil (file_line f))
joined f (g ∷ fs) = ap (λ (l : List ℕ). file_line f ++ (44 ∷ l)) (joined g fs)

-- ---- one file more
regrouped : (a b c d : List ℕ) → ((a ++ b) ++ c) ++ d ≡ a ++ (b ++ (c ++ d))
regrouped a b c d = simp append_assoc

next_more : (fs : List File) (i : ℕ) (f : File) → i < length fs → f ≡ get_or fs i f → next_lines (take (suc i) fs) ≡ next_lines (take i fs) ++ 44 ∷ file_line f
next_more [] i f l is = absurd (omega arith)
next_more (g ∷ fs) zero f l is = ap (λ (l : List ℕ). 44 ∷ l) (append-nil (file_line g) ∙ ap file_line (sym is))
next_more (g ∷ fs) (suc i) f l is =
    ap (λ (l : List ℕ). 44 ∷ l)
    (ap (λ (l : List ℕ). file_line g ++ l) (next_more fs i f (omega arith) is) ∙ sym (append_assoc (file_line g) (next_lines (take i fs)) (44 ∷ file_line f)))

separator_later : (i : ℕ) → separator (suc i) ≡ codes ",\n    "
separator_later i = ap (λ (b : Bool). cond b (codes "\n    ") (codes ",\n    ")) (ne_eqb (suc i) 0 (λ e. omega arith))

files_more : (fs : List File) (i : ℕ) (f : File) → i < length fs → f ≡ get_or fs i f →
    files_text (take (suc i) fs) ≡ files_text (take i fs) ++ (separator i ++ file_text f)
files_more [] i f l is = absurd (omega arith)
files_more (g ∷ fs) zero f l is = ap file_line (sym is)
files_more (g ∷ fs) (suc i) f l is =
    joined g (take (suc i) fs)
    ∙ ap (λ (l : List ℕ). file_line g ++ l) (next_more fs i f (omega arith) is)
    ∙ sym (append_assoc (file_line g) (next_lines (take i fs)) (44 ∷ file_line f))
    ∙ ap (λ (l : List ℕ). l ++ 44 ∷ file_line f) (sym (joined g (take i fs)))
    ∙ ap (λ (l : List ℕ). files_text (g ∷ take i fs) ++ (l ++ file_text f)) (sym (separator_later i))

-- the file with this index
file_there : (names : List (List ℕ)) (counts : List Counts) (moves : List Length) (i : ℕ) (n : List ℕ) (k : Counts) (m : Length)
    → i < length names → length counts ≡ length names → length moves ≡ length names → n ≡ get_or names i n → k ≡ get_or counts i k → m ≡ get_or moves i m
    → (n, (k, m)) ≡ get_or (files_of names counts moves) i (n, (k, m))
file_there names counts moves i n k m l same_counts same_moves name count move =
    let inner = get_or-zip counts moves i (k, m) (omega arith) (omega arith) in
    let rest : i < length (zip counts moves) = omega (arith, length-zip counts moves) in
    let found = get_or-zip names (zip counts moves) i (n, (k, m)) l rest in
    sym (found ∙ (λ j. (sym name j, inner j)) ∙ (λ j. (n, (sym count j, sym move j))))

pub file_appended : (names : List (List ℕ)) (counts : List Counts) (moves : List Length) (i : ℕ) (n : List ℕ)
    (k : Counts) (m : Length) (start before between after : List ℕ)
    → i < length names → length counts ≡ length names → length moves ≡ length names → n ≡ get_or names i n → k ≡ get_or counts i k → m ≡ get_or moves i m
    → before ≡ start ++ files_text (take i (files_of names counts moves)) → between ≡ before ++ separator i → after ≡ between ++ file_text (n, (k, m))
    → after ≡ start ++ files_text (take (i + 1) (files_of names counts moves))
file_appended names counts moves i n k m start before between after l same_counts same_moves name count move e f g =
    let fs = files_of names counts moves in
    let within : i < length fs = omega (arith, length-zip names (zip counts moves), length-zip counts moves) in
    let next : suc i ≡ i + 1 = omega arith in
    let more = files_more fs i (n, (k, m)) within (file_there names counts moves i n k m l same_counts same_moves name count move) in
    g ∙ ap (λ (x : List ℕ). x ++ file_text (n, (k, m))) (f ∙ ap (λ (x : List ℕ). x ++ separator i) e)
    ∙ regrouped start (files_text (take i fs)) (separator i) (file_text (n, (k, m)))
    ∙ ap (λ (x : List ℕ). start ++ x) (sym more)
    ∙ ap (λ (j : ℕ). start ++ files_text (take j fs)) next

-- all files
pub all_appended : (names : List (List ℕ)) (counts : List Counts) (moves : List Length) (i : ℕ) (start text : List ℕ) → length names ≤ i
    → text ≡ start ++ files_text (take i (files_of names counts moves)) → text ≡ start ++ files_text (files_of names counts moves)
all_appended names counts moves i start text l e =
    let fs = files_of names counts moves in
    e ∙ ap (λ (gs : List File). start ++ files_text gs) (take_all i fs (omega (arith, length-zip names (zip counts moves))))
