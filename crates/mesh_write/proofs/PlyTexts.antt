-- A PLY text, read again
use Rattle.std.proofs.Common.{◌≡◌, ℕ, ◌+◌, ◌<◌, ◌≤◌, ◌^◌, List, [], ◌∷◌, ◌++◌, length, map, min, append_assoc, Some}
use Rattle.std.proofs.Common.{Result, Ok, refl, sym, ap, subst, ◌∙◌, arith, decimal, codes}
use Rattle.std.specs.Prelude.{All, flat_map}
use Rattle.std.proofs.lemmas.List.{length-map}
use Rattle.mesh_write.specs.Text.Lines.{point_line, listed_face}
use Rattle.mesh_write.specs.Text.Texts.{ply_header, ply_text}
use Rattle.mesh_number.specs.Number.Naturals.{number_of}
use Rattle.mesh_ply.specs.declared.fault.PlyFault.{PlyFault}
use Rattle.mesh_ply.specs.Cursors.{Cursor, Words, rows_of}
use Rattle.mesh_ply.specs.Header.{Header, counted, entry_behind, entry_of, behind_entry, header_from, with_body, header_of_file}
use Rattle.mesh_ply.specs.ReadPly.{elements_from, content_in, content_of_file, of_flaw, read_ply_of}
use Rattle.mesh_ply.specs.Rows.{and_then}
use Rattle.mesh_read.specs.Scan.Parts.{Piece, span_of, words_from, lines_from, after_lines}
use Rattle.mesh_read.specs.Surface.Flaws.{as_mesh}
use Rattle.mesh_read.specs.Surface.Surfaces.{Content, no_content}
use Rattle.mesh_write.specs.declared.vertices.point.DecimalPoint.{DecimalPoint}
use Rattle.mesh_write.specs.declared.vertices.point.IndexedTriangle.{IndexedTriangle}
use Rattle.mesh_write.specs.Reading.Readings.{IsWithin, AreReadable, IsReadAs}
use Rattle.mesh_write.proofs.Contents.{read_point, content_from, content_is_read, mesh_ok}
use Rattle.mesh_write.proofs.Digits.{number_of_decimal}
use Rattle.mesh_write.proofs.Lines.{IsWord, literal_word, two_words, spaced, joined, piece, texts, joined_words, line_of_words, line_passed}
use Rattle.mesh_write.proofs.PlyHeaders.{with_element, with_axes, with_corners, behind_element, format_declared, format_lines, axis_lines, last_lines}
use Rattle.mesh_write.proofs.PlyRows.{vertex_rows, vertices, face_rows, faces}
use Rattle.mesh_write.proofs.WordTexts.{number_word}

-- ---- the line of an element
element_word : IsWord (codes "element")
element_word = literal_word (codes "element") refl (omega arith)

vertex_word : IsWord (codes "vertex")
vertex_word = literal_word (codes "vertex") refl (omega arith)

face_word : IsWord (codes "face")
face_word = literal_word (codes "face") refl (omega arith)

abbrev element_text : List ℕ → ℕ → List ℕ
element_text name n = codes "element" ++ spaced (name ∷ decimal n ∷ []) (10 ∷ [])

element_words : (h : Header) (words : List Piece) (name : List ℕ) (n : ℕ) → n < 2 ^ 64 → texts words ≡ codes "element" ∷ name ∷ decimal n ∷ []
    → (place : ℕ) × (entry_of h.kind words ≡ counted (piece place name) (Some n))
element_words h [] name n small e = absurd (cc)
element_words h (w ∷ []) name n small e = absurd (cc)
element_words h (w ∷ x ∷ []) name n small e = absurd (cc)
element_words h (w ∷ x ∷ y ∷ []) name n small e =
    let keyword : w.text ≡ codes "element" = cc in
    let second : x.text ≡ name = cc in
    let third : y.text ≡ decimal n = cc in (
      x.start,
      ap (λ (l : List ℕ). entry_behind h.kind l (x ∷ y ∷ [])) keyword
          ∙ ap (λ (l : List ℕ). counted (piece x.start l) (number_of y.text)) second
          ∙ ap (counted (piece x.start name)) (ap number_of third ∙ number_of_decimal n small),
    )
element_words h (w ∷ x ∷ y ∷ z ∷ more) name n small e = absurd (cc)

-- the line is read, and the name of the element has this place
record IsElementLine (k : ℕ) (h : Header) (s : ℕ) (name : List ℕ) (n : ℕ) (rest : List ℕ) : Type 0 where
  place : ℕ
  next : ℕ
  is : header_from k h (lines_from s (element_text name n ++ rest)) ≡ header_from (k + 1) (with_element h (piece place name) n) (lines_from next rest)

element_line : (k : ℕ) (h : Header) (s : ℕ) (name : List ℕ) (n : ℕ) (rest : List ℕ) → IsWord name → n < 2 ^ 64 → IsElementLine k h s name n rest
element_line k h s name n rest word small =
    let others = name ∷ decimal n ∷ [] in
    let are_words = two_words name (decimal n) word (number_word n small) in
    let next = s + length (joined (codes "element") others) + 1 in
    let entry = element_words h (words_from s (joined (codes "element") others) []) name n small
    (joined_words s (codes "element") others element_word are_words) in
    record {
      place = entry.0;
      next = next;
      is = ap (λ (l : List Piece). header_from k h l) (line_of_words s (codes "element") others rest element_word are_words)
          ∙ ap (λ e. behind_entry k h e (λ g. header_from (k + 1) g (lines_from next rest))) entry.1;
    }

-- ---- the header
abbrev format_text : List ℕ
format_text = codes "ply\nformat ascii 1.0\ncomment ember-mesh: rounded from an exact result\n"

abbrev axes_text : List ℕ
axes_text = codes "property double x\nproperty double y\nproperty double z\n"

abbrev list_text : List ℕ
list_text = codes "property list uchar int vertex_indices\nend_header\n"

-- the header, line by line
abbrev header_text : ℕ → ℕ → List ℕ → List ℕ
header_text v f body = format_text ++ (element_text (codes "vertex") v ++ (axes_text ++ (element_text (codes "face") f ++ (list_text ++ body))))

line_end : (n x body : List ℕ) → (n ++ (10 ∷ x)) ++ body ≡ (n ++ 10 ∷ []) ++ (x ++ body)
line_end n x body = append_assoc n (10 ∷ x) body ∙ sym (append_assoc n (10 ∷ []) (x ++ body))

header_lines : (v f : ℕ) (body : List ℕ) → ply_header v f ++ body ≡ header_text v f body
unfolding ply_header
header_lines v f body =
    ap (λ (l : List ℕ). format_text ++ (codes "element vertex " ++ l))
    (line_end (decimal v) (axes_text ++ (codes "element face " ++ (decimal f ++ (10 ∷ list_text)))) body)
    ∙ ap (λ (l : List ℕ). format_text ++ (element_text (codes "vertex") v ++ (axes_text ++ (codes "element face " ++ l)))) (line_end (decimal f) list_text body)

body_follows : (v f : ℕ) (body : List ℕ) → v < 2 ^ 64 → f < 2 ^ 64 → after_lines 10 (header_text v f body) ≡ body
body_follows v f body few small =
    ap (λ (l : List ℕ). after_lines 6 l)
    (line_passed (codes "element") (codes "vertex" ∷ decimal v ∷ [])
    (axes_text ++ (element_text (codes "face") f ++ (list_text ++ body))) element_word
    (two_words (codes "vertex") (decimal v) vertex_word (number_word v few)))
    ∙ ap (λ (l : List ℕ). after_lines 2 l)
    (line_passed (codes "element") (codes "face" ∷ decimal f ∷ []) (list_text ++ body) element_word
    (two_words (codes "face") (decimal f) face_word (number_word f small)))

abbrev whole_header : ℕ → ℕ → ℕ → ℕ → Header
whole_header a v b f =
    with_corners (behind_element (codes "face") (with_element
    (with_axes (behind_element (codes "vertex") (with_element format_declared (piece a (codes "vertex")) v)))
    (piece b (codes "face")) f))

-- the header is read, and the names of its elements have these places
record IsHeader (v f : ℕ) (body : List ℕ) : Type 0 where
  a : ℕ
  b : ℕ
  is : header_of_file (ply_header v f ++ body) ≡ Ok (whole_header a v b f, body)

header_read : (v f : ℕ) (body : List ℕ) → v < 2 ^ 64 → f < 2 ^ 64 → IsHeader v f body
header_read v f body few small =
    let last = list_text ++ body in
    let middle = axes_text ++ (element_text (codes "face") f ++ last) in
    let first = element_line 4 format_declared 70 (codes "vertex") v middle vertex_word few in
    let vertex_header = with_element format_declared (piece first.place (codes "vertex")) v in
    let axes = axis_lines vertex_header first.next (element_text (codes "face") f ++ last) in
    let axes_header = with_axes (behind_element (codes "vertex") vertex_header) in
    let second = element_line 8 axes_header axes.0 (codes "face") f last face_word small in
    let face_header = with_element axes_header (piece second.place (codes "face")) f in
    let lines = format_lines (element_text (codes "vertex") v ++ middle) ∙ first.is ∙ axes.1 ∙ second.is ∙ last_lines face_header second.next body in
    record {
      a = first.place;
      b = second.place;
      is = ap header_of_file (header_lines v f body)
          ∙ ap (λ (r : Result (Header × ℕ) PlyFault). with_body (header_text v f body) r) lines
          ∙ ap (λ (l : List ℕ). Ok (whole_header first.place v second.place f, l)) (body_follows v f body few small);
    }

-- ---- the rows
abbrev most : ℕ → ℕ
most n = min 1000000000000000 n

all_rows : ℕ → ℕ → ℕ → ℕ → Result (Content × Cursor) PlyFault → Result Content PlyFault
all_rows a v b f r = and_then r (λ r. and_then (face_rows (span_of (piece b (codes "face"))) (most f) 1 (most f) r.0 r.1) (λ r. Ok r.0))

elements_in_order : (a v b f : ℕ) (cursor : Cursor) → elements_from (whole_header a v b f).declarations no_content cursor
    ≡ all_rows a v b f (vertex_rows b f (span_of (piece a (codes "vertex"))) (most v) 1 (most v) no_content cursor)
unfolding all_rows
elements_in_order a v b f cursor = refl

not_cut : (n : ℕ) → n ≤ 10 ^ 15 → most n ≡ n
not_cut n few = omega (arith, few)

triangles_read : (a b s places : ℕ) (ps : List DecimalPoint) (ts : List IndexedTriangle) → AreReadable places ps ts → length ts ≤ 10 ^ 15
    → all_rows a (length ps) b (length ts) (Ok (
      record { points = map (read_point places) ps; facets = [] },
      Words [] (rows_of (lines_from s (flat_map listed_face ts))),
    )) ≡ Ok (content_from 1 places ps ts)
unfolding all_rows
triangles_read a b s places ps ts h few =
    let f = length ts in
    let count : length ps ≡ length (map (read_point places) ps) = sym (length-map ps (read_point places)) in
    ap (λ (r : Result (Content × Cursor) PlyFault). and_then r (λ r. Ok r.0))
    (faces (span_of (piece b (codes "face"))) (most f) 1 (most f) s ts
    (record { points = map (read_point places) ps; facets = [] }) (not_cut f few) (omega (arith, count, h.few_points))
    (subst (λ (v : ℕ). All (IsWithin v) ts) count h.within))

ply_content : (places : ℕ) (ps : List DecimalPoint) (ts : List IndexedTriangle) → AreReadable places ps ts → length ps ≤ 10 ^ 15 → length ts ≤ 10 ^ 15
    → content_of_file (ply_text places ps ts) ≡ Ok (content_from 1 places ps ts)
ply_content places ps ts h few small =
    let v = length ps in
    let f = length ts in
    let body = flat_map (point_line places) ps ++ flat_map listed_face ts in
    let header = header_read v f body h.few_points h.few_triangles in
    let name = span_of (piece header.a (codes "vertex")) in
    let front = vertices header.b f name (most v) 1 (most v) places 0 ps (flat_map listed_face ts) no_content (not_cut v few) h.below in
    ap (λ (r : Result (Header × List ℕ) PlyFault). and_then r (λ h. content_in h.0.encoding h.0.declarations h.1)) header.is
    ∙ elements_in_order header.a v header.b f (Words [] (rows_of (lines_from 0 body)))
    ∙ ap (all_rows header.a v header.b f) front.is
    ∙ triangles_read header.a header.b front.next places ps ts h small

pub ply_is_read : (places : ℕ) (ps : List DecimalPoint) (ts : List IndexedTriangle) → AreReadable places ps ts → length ps ≤ 10 ^ 15 → length ts ≤ 10 ^ 15
    → (content : Content) × (read_ply_of (ply_text places ps ts) ≡ Ok content) × IsReadAs places ps ts content
ply_is_read places ps ts h few small = (
  content_from 1 places ps ts,
  ap (as_mesh of_flaw) (ply_content places ps ts h few small)
      ∙ mesh_ok of_flaw 1 places ps ts h.triangles h.below,
  content_is_read 1 places ps ts h.below,
)
