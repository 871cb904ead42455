-- The triangles of the rows of an OBJ file
use Rattle.std.proofs.Common.{◌≡◌, ℕ, ◌+◌, ◌<◌, ◌^◌, List, [], ◌∷◌, ◌++◌, length, append_assoc, append-nil, Result, Ok, refl, sym, ap, ◌∙◌, arith, decimal}
use Rattle.std.specs.Prelude.{All, flat_map}
use Rattle.std.proofs.lemmas.List.Elements.{All-head, All-tail}
use Rattle.mesh_write.specs.Text.Lines.{indices_line}
use Rattle.mesh_write.specs.Text.Texts.{obj_face}
use Rattle.mesh_read.specs.Scan.Parts.{Piece, lines_from}
use Rattle.mesh_read.specs.declared.surface.surface.Facet.{Facet}
use Rattle.mesh_read.specs.Surface.Surfaces.{Content}
use Rattle.mesh_write.specs.declared.vertices.point.IndexedTriangle.{IndexedTriangle}
use Rattle.mesh_read.specs.Wavefront.Faults.{Fault}
use Rattle.mesh_read.specs.Wavefront.ReadWavefront.{with_corner, corners_of, fan_or_fault, keyword_of, with_facets, after_keyword, after_words, after_rows}
use Rattle.mesh_read.specs.Wavefront.Rows.{Row, rows_from}
use Rattle.mesh_write.specs.Reading.Readings.{IsWithin, corners_of as corners_in}
use Rattle.mesh_write.proofs.Contents.{facets_from}
use Rattle.mesh_write.proofs.Lines.{IsWord, literal_word, three_words, joined, texts, joined_words}
use Rattle.mesh_write.proofs.WordTexts.{number_word}
use Rattle.mesh_write.proofs.ObjReferences.{reference_ok}
use Rattle.mesh_write.proofs.ObjRows.{row_at, row_of_words}

-- ---- one row
abbrev f_word : List ℕ
f_word = 102 ∷ []

f_is_word : IsWord f_word
f_is_word = literal_word f_word refl (omega arith)

-- the words behind `f`
abbrev references : IndexedTriangle → List (List ℕ)
references t = decimal (t.a + 1) ∷ decimal (t.b + 1) ∷ decimal (t.c + 1) ∷ []

references_words : (v : ℕ) (t : IndexedTriangle) → v < 2 ^ 64 → IsWithin v t → All IsWord (references t)
references_words v t few h =
    three_words (decimal (t.a + 1)) (decimal (t.b + 1)) (decimal (t.c + 1))
    (number_word (t.a + 1) (omega (arith, few, h.a))) (number_word (t.b + 1) (omega (arith, few, h.b)))
    (number_word (t.c + 1) (omega (arith, few, h.c)))

three_corners : (line v : ℕ) (words : List Piece) (t : IndexedTriangle) → v < 2 ^ 64 → IsWithin v t →
    texts words ≡ references t → corners_of line v words ≡ Ok (corners_in t)
three_corners line v [] t few h e = absurd (cc)
three_corners line v (p ∷ []) t few h e = absurd (cc)
three_corners line v (p ∷ q ∷ []) t few h e = absurd (cc)
three_corners line v (p ∷ q ∷ r ∷ []) t few h e =
    let first = reference_ok line v t.a p h.a few (cc) in
    let second = reference_ok line v t.b q h.b few (cc) in
    let third = reference_ok line v t.c r h.c few (cc) in
    λ i. with_corner (first i) (with_corner (second i) (with_corner (third i) (Ok [])))
three_corners line v (p ∷ q ∷ r ∷ x ∷ more) t few h e = absurd (cc)

face_words : (line : ℕ) (content : Content) (words : List Piece) (t : IndexedTriangle) →
    length content.points < 2 ^ 64 → IsWithin (length content.points) t → texts words ≡ f_word ∷ references t
    → after_words line content words ≡ Ok (record { points = content.points; facets = content.facets ++ record { corners = corners_in t; place = line } ∷ [] })
face_words line content [] t few h e = absurd (cc)
face_words line content (w ∷ more) t few h e =
    let keyword : w.text ≡ f_word = cc in
    let rest : texts more ≡ references t = cc in
    ap (λ (l : List ℕ). after_keyword line content (keyword_of l) more) keyword
    ∙ ap (λ (r : Result (List ℕ) Fault). with_facets content (fan_or_fault line r)) (three_corners line (length content.points) more t few h rest)

abbrev face_row : ℕ → ℕ → IndexedTriangle → Row
face_row n s t = row_at n s f_word (references t)

-- ---- all rows
-- facets behind those of a content
abbrev pub with_more : Content → List Facet → Content
with_more content facets = record { points = content.points; facets = facets }

first_face : (v n s : ℕ) (t : IndexedTriangle) (rest : List ℕ) → v < 2 ^ 64 → IsWithin v t
    → rows_from n (lines_from s (obj_face t ++ rest)) ≡ face_row n s t ∷ rows_from (n + 1) (lines_from (s + length (joined f_word (references t)) + 1) rest)
unfolding obj_face indices_line
first_face v n s t rest few h = row_of_words n s f_word (references t) rest f_is_word (references_words v t few h)

pub faces : (n s : ℕ) (ts : List IndexedTriangle) (content : Content) → length content.points < 2 ^ 64 → All (IsWithin (length content.points)) ts
    → after_rows (Ok content) (rows_from n (lines_from s (flat_map obj_face ts))) ≡ Ok (with_more content (content.facets ++ facets_from n ts))
faces n s [] content few h = ap (λ (l : List Facet). Ok (with_more content l)) (sym (append-nil content.facets))
faces n s (t ∷ ts) content few h =
    let v = length content.points in
    let within = All-head (IsWithin v) t ts h in
    let start = s + length (joined f_word (references t)) + 1 in
    let facet : Facet = record { corners = corners_in t; place = n } in
    let row = face_row n s t in
    ap (λ (l : List Row). after_rows (Ok content) l) (first_face v n s t (flat_map obj_face ts) few within)
    ∙ ap (λ (r : Result Content Fault). after_rows r (rows_from (n + 1) (lines_from start (flat_map obj_face ts))))
    (face_words n content row.words t few within (joined_words s f_word (references t) f_is_word (references_words v t few within)))
    ∙ faces (n + 1) start ts (with_more content (content.facets ++ facet ∷ [])) few (All-tail (IsWithin v) t ts h)
    ∙ ap (λ (l : List Facet). Ok (with_more content l)) (append_assoc content.facets (facet ∷ []) (facets_from (n + 1) ts))
