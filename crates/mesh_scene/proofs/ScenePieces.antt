-- The text of a scene as tokens of JSON with gaps between them
use Rattle.std.proofs.Common.{◌≡◌, ℕ, ℤ, ◌<◌, ◌^◌, Bool, true, false, ◌&&◌, List, [], ◌∷◌, ◌++◌, refl, sym, ap, ◌∙◌}
use Rattle.std.proofs.Common.{append_assoc, map, inl, inr, ◌⊎◌, subst, decimal, IsUtf8}
use Rattle.std.specs.Prelude.{codes, All, ◌==◌, ◌||◌}
use Rattle.std.specs.Fmt.{signed_decimal}
use Rattle.std.proofs.lemmas.Bool.{and_parts, eqb-true}
use Rattle.std.proofs.lemmas.List.Elements.{All-head, All-tail}
use Rattle.json.specs.Token.{Token, begin_object, end_object, begin_array, end_array, key, string, number}
use Rattle.json.specs.Lex.{tokens}
use Rattle.json.specs.Print.{escape, escape_byte, quoted, token_text, ends, ArePrintable}
use Rattle.json.specs.Spaced.{IsGap, AreGaps, print_spaced}
use Rattle.std.proofs.lemmas.Fmt.{IsAscii-decimal, IsAscii-signed}
use Rattle.std.proofs.lemmas.Str.{IsUtf8-append, IsUtf8-nil, IsUtf8-from_ascii}
use lib.Signed.{mag}
use Rattle.json.proofs.Printed.Utf8.{IsUtf8-are_ascii, IsUtf8-quoted, IsUtf8-separator, IsUtf8-IsGap}
use Rattle.json.proofs.Printed.Decimals.{IsNumber-decimal, IsNumber-signed_decimal}
use Rattle.mesh_grid.specs.declared.moves.length.Length.{Length}
use Rattle.mesh_scene.specs.declared.scene.counts.Counts.{Counts}
use Rattle.mesh_grid.specs.declared.snap.offsets.Offset.{Offset}
use Rattle.mesh_grid.specs.declared.snap.steps.GridStep.{GridStep}
use Rattle.mesh_grid.specs.Snap.Steps.{IsStep}
use Rattle.mesh_scene.specs.SceneFile.Fractions.{fraction_text}
use Rattle.mesh_scene.specs.SceneFile.Texts.{File, move_text, count_text, counts_text, name_text, next_text, file_text}
use Rattle.mesh_scene.specs.SceneFile.Texts.{file_line, files_text, offset_text, grid_text, text_of}
use Rattle.mesh_scene.specs.SceneFile.ReadBack.{IsShort, IsFile}
use Rattle.mesh_scene.proofs.FileLines.{next_lines, joined}
use Rattle.mesh_scene.proofs.LexedTails.{tokens-pieces, regrouped}
use Rattle.mesh_scene.proofs.PlainTexts.{plain_escape, plain_utf8, move_plain, step_plain}

abbrev pub Pieces : Type 0
Pieces = List (List ℕ × Token)

abbrev pub file_pieces : File → Pieces
file_pieces f =
    (codes "\n    ", begin_object) ∷
    ([], key (codes "file")) ∷ (codes " ", string f.0) ∷
    (codes " ", key (codes "triangles")) ∷ (codes " ", number (decimal f.1.0.triangles)) ∷
    (codes " ", key (codes "vanished")) ∷ (codes " ", number (decimal f.1.0.vanished)) ∷
    (codes " ", key (codes "without area")) ∷ (codes " ", number (decimal f.1.0.flat)) ∷
    (codes " ", key (codes "greatest move")) ∷ (codes " ", string (move_text f.1.1)) ∷
    ([], end_object) ∷ []

abbrev pub files_pieces : List File → Pieces
files_pieces [] = (codes "\n  ", end_array) ∷ (codes "\n", end_object) ∷ []
files_pieces (f ∷ fs) = file_pieces f ++ files_pieces fs

abbrev pub grid_pieces : GridStep → Offset → Pieces
grid_pieces step o =
    ([], begin_object) ∷
    (codes "\n  ", key (codes "step")) ∷ (codes " ", string (fraction_text step)) ∷
    (codes "\n  ", key (codes "offset")) ∷ (codes " ", begin_array) ∷
    ([], number (signed_decimal o.x)) ∷ (codes " ", number (signed_decimal o.y)) ∷ (codes " ", number (signed_decimal o.z)) ∷
    ([], end_array) ∷
    (codes "\n  ", key (codes "files")) ∷ (codes " ", begin_array) ∷ []

abbrev pub scene_pieces : GridStep → Offset → List File → Pieces
scene_pieces step o fs = grid_pieces step o ++ files_pieces fs

-- ---- their text
regrouped5 : (a b c d e r : List ℕ) → (a ++ (b ++ (c ++ (d ++ e)))) ++ r ≡ a ++ (b ++ (c ++ (d ++ (e ++ r))))
regrouped5 a b c d e r = simp append_assoc

regrouped3 : (a b c r : List ℕ) → (a ++ (b ++ c)) ++ r ≡ a ++ (b ++ (c ++ r))
regrouped3 a b c r = simp append_assoc

-- between quotes (34)
quoted_plain : (s r : List ℕ) → escape s ≡ s → quoted s ++ r ≡ 34 ∷ (s ++ (34 ∷ r))
quoted_plain s r plain = ap (λ (l : List ℕ). 34 ∷ ((l ++ 34 ∷ []) ++ r)) plain ∙ ap (λ (l : List ℕ). 34 ∷ l) (append_assoc s (34 ∷ []) r)

-- a file's text with what follows it
abbrev count_then : List ℕ → ℕ → List ℕ → List ℕ
count_then k n r = codes ", \"" ++ (k ++ (codes "\": " ++ (decimal n ++ r)))

abbrev file_then : File → List ℕ → List ℕ
file_then f r =
    codes "{\"file\": " ++ (quoted f.0 ++
    count_then (codes "triangles") f.1.0.triangles (count_then (codes "vanished") f.1.0.vanished
    (count_then (codes "without area") f.1.0.flat (codes ", \"greatest move\": " ++ (quoted (move_text f.1.1) ++ (codes "}" ++ r))))))

count_regrouped : (k : List ℕ) (n : ℕ) (r : List ℕ) → count_text k n ++ r ≡ count_then k n r
unfolding count_text
count_regrouped k n r = regrouped (codes ", \"") k (codes "\": ") (decimal n) r

counts_regrouped : (c : Counts) (r : List ℕ) → counts_text c ++ r
    ≡ count_then (codes "triangles") c.triangles (count_then (codes "vanished") c.vanished (count_then (codes "without area") c.flat r))
unfolding counts_text
counts_regrouped c r =
    regrouped3 (count_text (codes "triangles") c.triangles) (count_text (codes "vanished") c.vanished) (count_text (codes "without area") c.flat) r
    ∙ count_regrouped (codes "triangles") c.triangles _
    ∙ ap (count_then (codes "triangles") c.triangles)
    (count_regrouped (codes "vanished") c.vanished _ ∙ ap (count_then (codes "vanished") c.vanished) (count_regrouped (codes "without area") c.flat r))

move_regrouped : (l : Length) (r : List ℕ)
    → codes ", \"greatest move\": \"" ++ (move_text l ++ (codes "\"}" ++ r)) ≡ codes ", \"greatest move\": " ++ (quoted (move_text l) ++ (codes "}" ++ r))
move_regrouped l r =
    ap (λ (s : List ℕ). codes ", \"greatest move\": " ++ s) (sym (quoted_plain (move_text l) (codes "}" ++ r) (plain_escape _ (move_plain l))))

file_regrouped : (f : File) (r : List ℕ) → file_text f ++ r ≡ file_then f r
unfolding file_text name_text
file_regrouped f r =
    let last = codes ", \"greatest move\": \"" ++ (move_text f.1.1 ++ (codes "\"}" ++ r)) in
    regrouped5 (name_text f.0) (counts_text f.1.0) (codes ", \"greatest move\": \"") (move_text f.1.1) (codes "\"}") r
    ∙ append_assoc (codes "{\"file\": ") (quoted f.0) (counts_text f.1.0 ++ last)
    ∙ ap (λ (l : List ℕ). codes "{\"file\": " ++ (quoted f.0 ++ l))
    (ap (λ (l : List ℕ). counts_text f.1.0 ++ l) (move_regrouped f.1.1 r) ∙ counts_regrouped f.1.0 _)

line_regrouped : (f : File) (r : List ℕ) → file_line f ++ r ≡ codes "\n    " ++ file_then f r
line_regrouped f r = append_assoc (codes "\n    ") (file_text f) r ∙ ap (λ (l : List ℕ). codes "\n    " ++ l) (file_regrouped f r)

file_spaced : (f : File) (rest : Pieces) → print_spaced false (file_pieces f ++ rest) ≡ codes "\n    " ++ file_then f (print_spaced true rest)
unfolding print_spaced escape_byte
file_spaced f rest = refl

next_spaced : (f : File) (rest : Pieces) → print_spaced true (file_pieces f ++ rest) ≡ 44 ∷ (codes "\n    " ++ file_then f (print_spaced true rest))
unfolding print_spaced escape_byte
next_spaced f rest = refl

next_files_spaced : (fs : List File) → print_spaced true (files_pieces fs) ≡ next_lines fs ++ codes "\n  ]\n}"
unfolding print_spaced
next_files_spaced [] = refl
next_files_spaced (f ∷ fs) =
    next_spaced f (files_pieces fs)
    ∙ ap (λ (l : List ℕ). 44 ∷ l)
    (sym (line_regrouped f (print_spaced true (files_pieces fs)))
    ∙ ap (λ (l : List ℕ). file_line f ++ l) (next_files_spaced fs)
    ∙ sym (append_assoc (file_line f) (next_lines fs) (codes "\n  ]\n}")))

files_spaced : (fs : List File) → print_spaced false (files_pieces fs) ≡ files_text fs ++ codes "\n  ]\n}"
unfolding print_spaced
files_spaced [] = refl
files_spaced (f ∷ fs) =
    file_spaced f (files_pieces fs)
    ∙ sym (line_regrouped f (print_spaced true (files_pieces fs)))
    ∙ ap (λ (l : List ℕ). file_line f ++ l) (next_files_spaced fs)
    ∙ sym (append_assoc (file_line f) (next_lines fs) (codes "\n  ]\n}"))
    ∙ ap (λ (l : List ℕ). l ++ codes "\n  ]\n}") (sym (joined f fs))

-- the text before the files with what follows it
abbrev grid_then : List ℕ → List ℕ → List ℕ → List ℕ → List ℕ → List ℕ
grid_then step x y z r =
    codes "{\n  \"step\": " ++ (step ++ (codes ",\n  \"offset\": [" ++ (x ++ (codes ", " ++ (y ++ (codes ", " ++ (z ++
    (codes "],\n  \"files\": [" ++ r))))))))

grid_spaced : (step : GridStep) (o : Offset) (rest : Pieces)
    → print_spaced false (grid_pieces step o ++ rest)
    ≡ grid_then (quoted (fraction_text step)) (signed_decimal o.x) (signed_decimal o.y) (signed_decimal o.z) (print_spaced false rest)
unfolding print_spaced escape_byte
grid_spaced step o rest = refl

grid_regrouped : (step : GridStep) (o : Offset) (r : List ℕ) → IsStep step
    → grid_then (quoted (fraction_text step)) (signed_decimal o.x) (signed_decimal o.y) (signed_decimal o.z) r ≡ grid_text step o ++ r
unfolding grid_text offset_text next_text
grid_regrouped step o r is =
    let offset = codes ", " ++ (signed_decimal o.y ++ (codes ", " ++ (signed_decimal o.z ++ (codes "],\n  \"files\": [" ++ r)))) in
    ap (λ (l : List ℕ). codes "{\n  \"step\": " ++ l)
    (quoted_plain (fraction_text step) (codes ",\n  \"offset\": [" ++ (signed_decimal o.x ++ offset))
    (plain_escape _ (step_plain step is)))
    ∙ sym
    (regrouped5 (codes "{\n  \"step\": \"") (fraction_text step) (codes "\",\n  \"offset\": ") (offset_text o) (codes ",\n  \"files\": [") r
    ∙ ap (λ (l : List ℕ). codes "{\n  \"step\": \"" ++ (fraction_text step ++ (codes "\",\n  \"offset\": " ++ l)))
    (regrouped5 (codes "[") (signed_decimal o.x) (next_text o.y) (next_text o.z) (codes "]") (codes ",\n  \"files\": [" ++ r)
    ∙ ap (λ (l : List ℕ). codes "[" ++ (signed_decimal o.x ++ l))
    (append_assoc (codes ", ") (signed_decimal o.y) _
    ∙ ap (λ (l : List ℕ). codes ", " ++ (signed_decimal o.y ++ l))
    (append_assoc (codes ", ") (signed_decimal o.z) _))))

pub pieces_are_text : (step : GridStep) (o : Offset) (fs : List File) → IsStep step
    → print_spaced false (scene_pieces step o fs) ++ 10 ∷ [] ≡ text_of step o fs
pieces_are_text step o fs is =
    ap (λ (l : List ℕ). l ++ 10 ∷ [])
    (grid_spaced step o (files_pieces fs) ∙ grid_regrouped step o _ is ∙ ap (λ (l : List ℕ). grid_text step o ++ l) (files_spaced fs))
    ∙ append_assoc (grid_text step o) (files_text fs ++ codes "\n  ]\n}") (10 ∷ [])
    ∙ ap (λ (l : List ℕ). grid_text step o ++ l) (append_assoc (files_text fs) (codes "\n  ]\n}") (10 ∷ []))

-- ---- they can be read
-- spaces (32) and line ends (10)
abbrev is_gap : List ℕ → Bool
is_gap [] = true
is_gap (x ∷ xs) = (x == 32 || x == 10) && is_gap xs

abbrev are_gaps : Pieces → Bool
are_gaps [] = true
are_gaps (p ∷ ps) = is_gap p.0 && are_gaps ps

space_or_end : (x : ℕ) (b c : Bool) → (x == 32) ≡ b → (x == 10) ≡ c → (b || c) ≡ true → (x ≡ 32) ⊎ (x ≡ 10)
space_or_end x true c e f h = inl (eqb-true x 32 e)
space_or_end x false true e f h = inr (eqb-true x 10 f)
space_or_end x false false e f h = cc

gap_sound : (g : List ℕ) → is_gap g ≡ true → IsGap g
gap_sound [] e = tt
gap_sound (x ∷ xs) e =
    let parts = and_parts (x == 32 || x == 10) (is_gap xs) e in
    (space_or_end x (x == 32) (x == 10) refl refl parts.0, gap_sound xs parts.1)

gaps_sound : (ps : Pieces) → are_gaps ps ≡ true → AreGaps ps
gaps_sound [] e = tt
gaps_sound (p ∷ ps) e = let parts = and_parts (is_gap p.0) (are_gaps ps) e in (gap_sound p.0 parts.0, gaps_sound ps parts.1)

files_gaps : (fs : List File) → are_gaps (files_pieces fs) ≡ true
files_gaps [] = refl
files_gaps (f ∷ fs) = files_gaps fs

files_printable : (fs : List File) → All IsFile fs → ArePrintable (map (λ p. p.1) (files_pieces fs))
unfolding ArePrintable
files_printable [] h = (tt, (tt, tt))
files_printable (f ∷ fs) h =
    let counts = (All-head IsFile f fs h).counts in (
      tt,
      (
        tt,
        (
          tt,
          (
            tt,
            (
              IsNumber-decimal _ counts.triangles,
              (
                tt,
                (
                  IsNumber-decimal _ counts.vanished,
                  (
                    tt,
                    (IsNumber-decimal _ counts.flat, (tt, (tt, (tt, files_printable fs (All-tail IsFile f fs h))))),
                  ),
                ),
              ),
            ),
          ),
        ),
      ),
    )

scene_printable : (step : GridStep) (o : Offset) (fs : List File) → IsShort o → All IsFile fs → ArePrintable (map (λ p. p.1) (scene_pieces step o fs))
unfolding ArePrintable
scene_printable step o fs short h = (
  tt,
  (
    tt,
    (
      tt,
      (
        tt,
        (
          tt,
          (
            IsNumber-signed_decimal o.x short.along_x.sfits,
            (
              IsNumber-signed_decimal o.y short.along_y.sfits,
              (IsNumber-signed_decimal o.z short.along_z.sfits, (tt, (tt, (tt, files_printable fs h)))),
            ),
          ),
        ),
      ),
    ),
  ),
)

-- the tokens of a scene's text
pub text_tokens : (step : GridStep) (o : Offset) (fs : List File) → IsStep step → IsShort o → All IsFile fs
    → tokens (text_of step o fs) ≡ map (λ p. p.1) (scene_pieces step o fs)
text_tokens step o fs is short h =
    ap tokens (sym (pieces_are_text step o fs is))
    ∙ tokens-pieces (scene_pieces step o fs) (gaps_sound (scene_pieces step o fs) (files_gaps fs)) (scene_printable step o fs short h)

-- ---- they are UTF-8
abbrev AreUtf8 : Pieces → Type 0
AreUtf8 [] = Unit {0}
AreUtf8 (p ∷ ps) = IsUtf8 (token_text p.1) × AreUtf8 ps

spaced_utf8 : (b : Bool) (ps : Pieces) → AreGaps ps → AreUtf8 ps → IsUtf8 (print_spaced b ps)
unfolding print_spaced
spaced_utf8 b [] gaps h = IsUtf8-nil
spaced_utf8 b (p ∷ ps) gaps h =
    IsUtf8-append _ _ (IsUtf8-separator b p.1)
    (IsUtf8-append _ _ (IsUtf8-IsGap p.0 gaps.0) (IsUtf8-append _ _ h.0 (spaced_utf8 (ends p.1) ps gaps.1 h.1)))

decimal_utf8 : (n : ℕ) → n < 2 ^ 64 → IsUtf8 (decimal n)
decimal_utf8 n small = IsUtf8-from_ascii _ (IsAscii-decimal n small)

signed_utf8 : (z : ℤ) → mag z < 2 ^ 63 → IsUtf8 (signed_decimal z)
signed_utf8 z small = IsUtf8-from_ascii _ (IsAscii-signed z small)

files_utf8 : (fs : List File) → All IsFile fs → AreUtf8 (files_pieces fs)
unfolding escape_byte
files_utf8 [] h = (IsUtf8-are_ascii _ refl, (IsUtf8-are_ascii _ refl, tt))
files_utf8 (f ∷ fs) h =
    let file = All-head IsFile f fs h in (
      IsUtf8-are_ascii _ refl,
      (
        IsUtf8-are_ascii _ refl,
        (
          IsUtf8-quoted f.0 file.name,
          (
            IsUtf8-are_ascii _ refl,
            (
              decimal_utf8 _ file.counts.triangles,
              (
                IsUtf8-are_ascii _ refl,
                (
                  decimal_utf8 _ file.counts.vanished,
                  (
                    IsUtf8-are_ascii _ refl,
                    (
                      decimal_utf8 _ file.counts.flat,
                      (
                        IsUtf8-are_ascii _ refl,
                        (
                          IsUtf8-quoted (move_text f.1.1) (plain_utf8 _ (move_plain f.1.1)),
                          (IsUtf8-are_ascii _ refl, files_utf8 fs (All-tail IsFile f fs h)),
                        ),
                      ),
                    ),
                  ),
                ),
              ),
            ),
          ),
        ),
      ),
    )

scene_utf8 : (step : GridStep) (o : Offset) (fs : List File) → IsStep step → IsShort o → All IsFile fs → AreUtf8 (scene_pieces step o fs)
unfolding escape_byte
scene_utf8 step o fs is short h = (
  IsUtf8-are_ascii _ refl,
  (
    IsUtf8-are_ascii _ refl,
    (
      IsUtf8-quoted (fraction_text step) (plain_utf8 _ (step_plain step is)),
      (
        IsUtf8-are_ascii _ refl,
        (
          IsUtf8-are_ascii _ refl,
          (
            signed_utf8 o.x short.along_x.sfits,
            (
              signed_utf8 o.y short.along_y.sfits,
              (
                signed_utf8 o.z short.along_z.sfits,
                (IsUtf8-are_ascii _ refl, (IsUtf8-are_ascii _ refl, (IsUtf8-are_ascii _ refl, files_utf8 fs h))),
              ),
            ),
          ),
        ),
      ),
    ),
  ),
)

pub text_utf8 : (step : GridStep) (o : Offset) (fs : List File) → IsStep step → IsShort o → All IsFile fs → IsUtf8 (text_of step o fs)
text_utf8 step o fs is short h =
    subst IsUtf8 (pieces_are_text step o fs is)
    (IsUtf8-append _ (10 ∷ []) (spaced_utf8 false _ (gaps_sound (scene_pieces step o fs) (files_gaps fs))
    (scene_utf8 step o fs is short h)) (IsUtf8-are_ascii (10 ∷ []) refl))
