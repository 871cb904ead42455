-- The rows of a PLY text behind its header
use Rattle.std.proofs.Common.{◌≡◌, ℕ, zero, suc, ◌+◌, ◌≤◌, ◌^◌, List, [], ◌∷◌, ◌++◌, length, map, append_assoc}
use Rattle.std.proofs.Common.{append-nil, Some, None, Result, Ok, refl, sym, ap, ◌∙◌, arith, codes}
use Rattle.std.specs.Prelude.{All, flat_map}
use Rattle.std.proofs.lemmas.List.Elements.{All-head, All-tail}
use Rattle.mesh_write.specs.Text.Lines.{coordinate_text, point_line, indices_line, listed_face}
use Rattle.mesh_number.specs.Number.Naturals.{number_of}
use Rattle.mesh_number.specs.Number.Texts.{value_of_text}
use Rattle.mesh_ply.specs.declared.fault.PlyFault.{PlyFault}
use Rattle.mesh_ply.specs.Cursors.{Cursor, Words, row_before, rows_of}
use Rattle.mesh_ply.specs.Header.{kind_named}
use Rattle.mesh_ply.specs.ReadPly.{place_of, with_row, rows_from}
use Rattle.mesh_ply.specs.Rows.{Row, and_then, row_at}
use Rattle.mesh_read.specs.declared.scan.part.Span.{Span}
use Rattle.mesh_read.specs.Scan.Parts.{Piece, words_from, lines_from}
use Rattle.mesh_read.specs.declared.surface.surface.Facet.{Facet}
use Rattle.mesh_read.specs.Surface.Surfaces.{Point, Content}
use Rattle.mesh_write.specs.declared.vertices.point.DecimalPoint.{DecimalPoint}
use Rattle.mesh_write.specs.declared.vertices.point.IndexedTriangle.{IndexedTriangle}
use Rattle.mesh_write.specs.Reading.Readings.{IsPointBelow, IsWithin, corners_of}
use Rattle.mesh_write.proofs.Contents.{read_point, facets_from}
use Rattle.mesh_write.proofs.Coordinates.{read_value, coordinate_is_read}
use Rattle.mesh_write.proofs.Indices.{index_ok}
use Rattle.mesh_write.proofs.Lines.{IsWord, spaced, joined, texts, joined_words, line_of_words}
use Rattle.mesh_write.proofs.PlyProperties.{behind_vertices, behind_faces, vertex_properties, face_properties}
use Rattle.mesh_write.proofs.WordTexts.{coordinate_word, other_coordinates, other_coordinates_words, three_word, index_texts, index_words}
use Rattle.mesh_write.proofs.ObjFacets.{with_more}
use Rattle.mesh_write.proofs.ObjPoints.{with_points}

-- ---- lines
some_words : (words : List Piece) (w : List ℕ) (ws : List (List ℕ)) (rows : List (List Piece)) → texts words ≡ w ∷ ws → row_before words rows ≡ words ∷ rows
some_words [] w ws rows e = absurd (cc)
some_words (x ∷ xs) w ws rows e = refl

-- the row of a line of words, and what follows it
row_of_words : (s : ℕ) (w : List ℕ) (ws : List (List ℕ)) (rest : List ℕ) → IsWord w → All IsWord ws
    → rows_of (lines_from s ((w ++ spaced ws (10 ∷ [])) ++ rest)) ≡ words_from s (joined w ws) [] ∷ rows_of (lines_from (s + length (joined w ws) + 1) rest)
row_of_words s w ws rest h hs =
    ap rows_of (line_of_words s w ws rest h hs)
    ∙ some_words (words_from s (joined w ws) []) w ws (rows_of (lines_from (s + length (joined w ws) + 1) rest)) (joined_words s w ws h hs)

-- ---- vertices
abbrev vertex_row : ℕ → ℕ → Span → ℕ → ℕ → Content → Cursor → Result (Row × Cursor) PlyFault
vertex_row k f name count number content cursor =
    row_at (place_of (record { kind = kind_named (codes "vertex"); name = name; count = count }) number content) (behind_vertices k f).declarations cursor

abbrev pub vertex_rows : ℕ → ℕ → Span → ℕ → ℕ → ℕ → Content → Cursor → Result (Content × Cursor) PlyFault
vertex_rows k f name count number left content cursor =
    rows_from (record { kind = kind_named (codes "vertex"); name = name; count = count }) (behind_vertices k f).declarations number left content cursor

abbrev coordinates : ℕ → DecimalPoint → Row
coordinates places p = record { x = Some (read_value places p.x); y = Some (read_value places p.y); z = Some (read_value places p.z); corners = None }

vertex_ok : (k f : ℕ) (name : Span) (count number : ℕ) (content : Content) (words : List Piece)
    (rows : List (List Piece)) (places : ℕ) (p : DecimalPoint) → IsPointBelow places p
    → texts words ≡ coordinate_text places p.x ∷ coordinate_text places p.y ∷ coordinate_text places p.z ∷ []
    → vertex_row k f name count number content (Words [] (words ∷ rows)) ≡ Ok (coordinates places p, Words [] rows)
vertex_ok k f name count number content [] rows places p h e = absurd (cc)
vertex_ok k f name count number content (a ∷ []) rows places p h e = absurd (cc)
vertex_ok k f name count number content (a ∷ b ∷ []) rows places p h e = absurd (cc)
vertex_ok k f name count number content (a ∷ b ∷ c ∷ []) rows places p h e =
    let first : a.text ≡ coordinate_text places p.x = cc in
    let second : b.text ≡ coordinate_text places p.y = cc in
    let third : c.text ≡ coordinate_text places p.z = cc in
    vertex_properties k f name count number content a b c rows (read_value places p.x) (read_value places p.y) (read_value places p.z)
    (ap value_of_text first ∙ (coordinate_is_read places p.x h.x).is)
    (ap value_of_text second ∙ (coordinate_is_read places p.y h.y).is)
    (ap value_of_text third ∙ (coordinate_is_read places p.z h.z).is)
vertex_ok k f name count number content (a ∷ b ∷ c ∷ d ∷ more) rows places p h e = absurd (cc)

first_vertex : (places s : ℕ) (p : DecimalPoint) (rest : List ℕ) → IsPointBelow places p
    → rows_of (lines_from s (point_line places p ++ rest)) ≡ words_from s
    (joined (coordinate_text places p.x) (other_coordinates places p)) []
    ∷ rows_of (lines_from (s + length (joined (coordinate_text places p.x) (other_coordinates places p)) + 1) rest)
unfolding point_line
first_vertex places s p rest h = row_of_words s (coordinate_text places p.x) (other_coordinates places p) rest
    (coordinate_word places p.x h.x) (other_coordinates_words places p h)

-- what is read of points, and where what follows them begins
pub record AreVertices (k f : ℕ) (name : Span) (count number left places s : ℕ) (ps : List DecimalPoint) (rest : List ℕ) (content : Content) : Type 0 where
  pub next : ℕ
  pub is : vertex_rows k f name count number left content (Words [] (rows_of (lines_from s (flat_map (point_line places) ps ++ rest))))
      ≡ Ok (with_points content (content.points ++ map (read_point places) ps), Words [] (rows_of (lines_from next rest)))

pub vertices : (k f : ℕ) (name : Span) (count number left places s : ℕ) (ps : List DecimalPoint) (rest : List ℕ)
    (content : Content) → left ≡ length ps → All (IsPointBelow places) ps
    → AreVertices k f name count number left places s ps rest content
vertices k f name count number zero places s [] rest content n h =
    record { next = s; is = ap (λ (l : List Point). Ok (with_points content l, Words [] (rows_of (lines_from s rest)))) (sym (append-nil content.points)) }
vertices k f name count number (suc left) places s [] rest content n h = absurd (omega (arith, n))
vertices k f name count number zero places s (p ∷ ps) rest content n h = absurd (omega (arith, n))
vertices k f name count number (suc left) places s (p ∷ ps) rest content n h =
    let below = All-head (IsPointBelow places) p ps h in
    let q = read_point places p in
    let words = words_from s (joined (coordinate_text places p.x) (other_coordinates places p)) [] in
    let start = s + length (joined (coordinate_text places p.x) (other_coordinates places p)) + 1 in
    let after = flat_map (point_line places) ps ++ rest in
    let rows = rows_of (lines_from start after) in
    let more = vertices k f name count (number + 1) left places start ps rest
    (with_points content (content.points ++ q ∷ [])) (omega (arith, n)) (All-tail (IsPointBelow places) p ps h) in
    record {
      next = more.next;
      is = ap (λ (l : List (List Piece)). vertex_rows k f name count number (suc left) content (Words [] l))
          (ap (λ (l : List ℕ). rows_of (lines_from s l))
          (append_assoc (point_line places p) (flat_map (point_line places) ps) rest)
          ∙ first_vertex places s p after below)
          ∙ ap (λ (r : Result (Row × Cursor) PlyFault). and_then r
          (λ r. and_then (with_row (kind_named (codes "vertex")) number content r.0)
          (λ c. vertex_rows k f name count (number + 1) left c r.1)))
          (vertex_ok k f name count number content words rows places p below
          (joined_words s (coordinate_text places p.x) (other_coordinates places p)
          (coordinate_word places p.x below.x) (other_coordinates_words places p below)))
          ∙ more.is
          ∙ ap (λ (l : List Point). Ok (with_points content l, Words [] (rows_of (lines_from more.next rest))))
          (append_assoc content.points (q ∷ []) (map (read_point places) ps));
    }

-- ---- faces
abbrev face_row : Span → ℕ → ℕ → Content → Cursor → Result (Row × Cursor) PlyFault
face_row name count number content cursor =
    row_at (place_of (record { kind = kind_named (codes "face"); name = name; count = count }) number content) behind_faces.declarations cursor

abbrev pub face_rows : Span → ℕ → ℕ → ℕ → Content → Cursor → Result (Content × Cursor) PlyFault
face_rows name count number left content cursor =
    rows_from (record { kind = kind_named (codes "face"); name = name; count = count }) behind_faces.declarations number left content cursor

face_ok : (name : Span) (count number : ℕ) (content : Content) (words : List Piece) (rows : List (List Piece))
    (t : IndexedTriangle) → length content.points ≤ 2 ^ 64 → IsWithin (length content.points) t
    → texts words ≡ (51 ∷ []) ∷ index_texts t
    → face_row name count number content (Words [] (words ∷ rows)) ≡ Ok (record { x = None; y = None; z = None; corners = Some (corners_of t) }, Words [] rows)
face_ok name count number content [] rows t few h e = absurd (cc)
face_ok name count number content (size ∷ []) rows t few h e = absurd (cc)
face_ok name count number content (size ∷ a ∷ []) rows t few h e = absurd (cc)
face_ok name count number content (size ∷ a ∷ b ∷ []) rows t few h e = absurd (cc)
face_ok name count number content (size ∷ a ∷ b ∷ c ∷ []) rows t few h e =
    let v = length content.points in
    let three : size.text ≡ 51 ∷ [] = cc in
    face_properties name count number content size a b c rows t.a t.b t.c (ap number_of three)
    (index_ok v t.a a.text few h.a (cc)) (index_ok v t.b b.text few h.b (cc)) (index_ok v t.c c.text few h.c (cc))
face_ok name count number content (size ∷ a ∷ b ∷ c ∷ d ∷ more) rows t few h e = absurd (cc)

first_face : (v s : ℕ) (t : IndexedTriangle) (rest : List ℕ) → v ≤ 2 ^ 64 → IsWithin v t
    → rows_of (lines_from s (listed_face t ++ rest)) ≡ words_from s (joined (51 ∷ []) (index_texts t)) []
    ∷ rows_of (lines_from (s + length (joined (51 ∷ []) (index_texts t)) + 1) rest)
unfolding listed_face indices_line
first_face v s t rest few h = row_of_words s (51 ∷ []) (index_texts t) rest three_word (index_words v t few h)

pub faces : (name : Span) (count number left s : ℕ) (ts : List IndexedTriangle) (content : Content) → left ≡ length ts →
    length content.points ≤ 2 ^ 64 → All (IsWithin (length content.points)) ts
    → face_rows name count number left content (Words [] (rows_of (lines_from s (flat_map listed_face ts)))) ≡ Ok
    (with_more content (content.facets ++ facets_from number ts), Words [] [])
faces name count number zero s [] content n few h = ap (λ (l : List Facet). Ok (with_more content l, Words [] [])) (sym (append-nil content.facets))
faces name count number (suc left) s [] content n few h = absurd (omega (arith, n))
faces name count number zero s (t ∷ ts) content n few h = absurd (omega (arith, n))
faces name count number (suc left) s (t ∷ ts) content n few h =
    let v = length content.points in
    let within = All-head (IsWithin v) t ts h in
    let words = words_from s (joined (51 ∷ []) (index_texts t)) [] in
    let start = s + length (joined (51 ∷ []) (index_texts t)) + 1 in
    let rows = rows_of (lines_from start (flat_map listed_face ts)) in
    let facet : Facet = record { corners = corners_of t; place = number } in
    ap (λ (l : List (List Piece)). face_rows name count number (suc left) content (Words [] l)) (first_face v s t (flat_map listed_face ts) few within)
    ∙ ap (λ (r : Result (Row × Cursor) PlyFault). and_then r
    (λ r. and_then (with_row (kind_named (codes "face")) number content r.0)
    (λ c. face_rows name count (number + 1) left c r.1)))
    (face_ok name count number content words rows t few within (joined_words s (51 ∷ []) (index_texts t) three_word (index_words v t few within)))
    ∙ faces name count (number + 1) left start ts (with_more content (content.facets ++ facet ∷ [])) (omega (arith, n)) few (All-tail (IsWithin v) t ts h)
    ∙ ap (λ (l : List Facet). Ok (with_more content l, Words [] [])) (append_assoc content.facets (facet ∷ []) (facets_from (number + 1) ts))
