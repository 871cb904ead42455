-- The triangles of the rows of an OFF file
use Rattle.std.proofs.Common.{◌≡◌, ℕ, suc, ◌+◌, ◌≤◌, ◌^◌, List, [], ◌∷◌, ◌++◌, length, Some, Ok, refl, ap, ap₂, ◌∙◌, decimal}
use Rattle.std.specs.Prelude.{All, flat_map}
use Rattle.std.proofs.lemmas.List.Elements.{All-head, All-tail}
use Rattle.mesh_write.specs.Text.Lines.{indices_line, listed_face}
use Rattle.mesh_read.specs.Off.ReadOff.{with_corner, indices, corners_of, fan_or_fault, facets_in, facets_of, joined as joined_facets}
use Rattle.mesh_read.specs.Off.Rows.{Words, rows_from}
use Rattle.mesh_read.specs.Scan.Parts.{Piece, lines_from}
use Rattle.mesh_write.specs.declared.vertices.point.IndexedTriangle.{IndexedTriangle}
use Rattle.mesh_write.specs.Reading.Readings.{IsWithin, corners_of as corners_in}
use Rattle.mesh_write.proofs.Indices.{index_ok}
use Rattle.mesh_write.proofs.Contents.{facets_from}
use Rattle.mesh_write.proofs.Lines.{joined, texts, joined_words}
use Rattle.mesh_write.proofs.WordTexts.{three_word, index_texts, index_words}
use Rattle.mesh_write.proofs.OffRows.{row_at, row_of_words}

-- ---- one row
three_indices : (v : ℕ) (words : List Piece) (t : IndexedTriangle) → v ≤ 2 ^ 64 → IsWithin v t → texts words ≡ decimal t.a ∷ decimal t.b ∷ decimal t.c ∷ []
    → indices v 3 words ≡ Some (corners_in t)
three_indices v [] t few h e = absurd (cc)
three_indices v (p ∷ []) t few h e = absurd (cc)
three_indices v (p ∷ q ∷ []) t few h e = absurd (cc)
three_indices v (p ∷ q ∷ r ∷ more) t few h e =
    let first = index_ok v t.a p.text few h.a (cc) in
    let second = index_ok v t.b q.text few h.b (cc) in
    let third = index_ok v t.c r.text few h.c (cc) in
    λ i. with_corner (first i) (with_corner (second i) (with_corner (third i) (Some [])))

size_and_indices : (v : ℕ) (words : List Piece) (t : IndexedTriangle) → v ≤ 2 ^ 64 → IsWithin v t →
    texts words ≡ (51 ∷ []) ∷ decimal t.a ∷ decimal t.b ∷ decimal t.c ∷ []
    → corners_of v words ≡ Some (corners_in t)
size_and_indices v [] t few h e = absurd (cc)
size_and_indices v (size ∷ words) t few h e =
    let three : size.text ≡ 51 ∷ [] = cc in
    let rest : texts words ≡ decimal t.a ∷ decimal t.b ∷ decimal t.c ∷ [] = cc in
    ap (λ (l : List ℕ). corners_of v (record { start = size.start; text = l } ∷ words)) three ∙ three_indices v words t few h rest

abbrev face_row : ℕ → ℕ → IndexedTriangle → Words
face_row n s t = row_at n s (51 ∷ []) (index_texts t)

face_ok : (v n s : ℕ) (t : IndexedTriangle) → v ≤ 2 ^ 64 → IsWithin v t → facets_in v (face_row n s t) ≡ Ok (record { corners = corners_in t; place = n } ∷ [])
face_ok v n s t few h =
    ap (fan_or_fault n) (size_and_indices v (face_row n s t).words t few h (joined_words s (51 ∷ []) (index_texts t) three_word (index_words v t few h)))

-- ---- all rows
pub record AreFaces (v n s : ℕ) (ts : List IndexedTriangle) : Type 0 where
  pub rows : List Words
  pub is : rows_from n (lines_from s (flat_map listed_face ts)) ≡ rows
  pub count : length rows ≡ length ts
  pub facets : facets_of v rows ≡ Ok (facets_from n ts)

first_face : (v n s : ℕ) (t : IndexedTriangle) (rest : List ℕ) → v ≤ 2 ^ 64 → IsWithin v t
    → rows_from n (lines_from s (listed_face t ++ rest)) ≡ face_row n s t
    ∷ rows_from (n + 1) (lines_from (s + length (joined (51 ∷ []) (index_texts t)) + 1) rest)
unfolding listed_face indices_line
first_face v n s t rest few h = row_of_words n s (51 ∷ []) (index_texts t) rest three_word (index_words v t few h)

pub faces : (v n s : ℕ) (ts : List IndexedTriangle) → v ≤ 2 ^ 64 → All (IsWithin v) ts → AreFaces v n s ts
faces v n s [] few h = record { rows = []; is = refl; count = refl; facets = refl }
faces v n s (t ∷ ts) few h =
    let within = All-head (IsWithin v) t ts h in
    let more = faces v (n + 1) (s + length (joined (51 ∷ []) (index_texts t)) + 1) ts few (All-tail (IsWithin v) t ts h) in
    record {
      rows = face_row n s t ∷ more.rows;
      is = first_face v n s t (flat_map listed_face ts) few within ∙ ap (λ (l : List Words). face_row n s t ∷ l) more.is;
      count = ap suc more.count;
      facets = ap₂ (λ a b. joined_facets a b) (face_ok v n s t few within) more.facets;
    }
