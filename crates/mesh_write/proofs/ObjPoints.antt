-- The points of the rows of an OBJ file
use Rattle.std.proofs.Common.{◌≡◌, ℕ, suc, ◌+◌, List, [], ◌∷◌, ◌++◌, length, map, append_assoc, append-nil, Option, Some, Result, Ok, refl, sym, ap, ◌∙◌, arith}
use Rattle.std.specs.Prelude.{All, flat_map}
use Rattle.std.proofs.lemmas.List.Elements.{All-head, All-tail}
use Rattle.mesh_write.specs.Text.Lines.{coordinate_text, point_line}
use Rattle.mesh_write.specs.Text.Texts.{obj_vertex}
use Rattle.mesh_number.specs.Number.Fractions.{Fraction}
use Rattle.mesh_number.specs.Number.Texts.{value_of_text}
use Rattle.mesh_read.specs.Scan.Parts.{Piece, lines_from}
use Rattle.mesh_read.specs.Surface.Surfaces.{Point, Content, point_of_three}
use Rattle.mesh_write.specs.declared.vertices.point.DecimalPoint.{DecimalPoint}
use Rattle.mesh_read.specs.Wavefront.Faults.{Fault}
use Rattle.mesh_read.specs.Wavefront.ReadWavefront.{coordinate_or_fault, coordinate_in, point_in}
use Rattle.mesh_read.specs.Wavefront.ReadWavefront.{keyword_of, with_point, after_keyword, after_words, after_rows}
use Rattle.mesh_read.specs.Wavefront.Rows.{Row, rows_from}
use Rattle.mesh_write.specs.Reading.Readings.{IsPointBelow}
use Rattle.mesh_write.proofs.Coordinates.{read_value, coordinate_is_read}
use Rattle.mesh_write.proofs.Contents.{read_point}
use Rattle.mesh_write.proofs.Lines.{IsWord, literal_word, three_words, joined, texts, joined_words}
use Rattle.mesh_write.proofs.WordTexts.{coordinate_word}
use Rattle.mesh_write.proofs.ObjRows.{row_at, row_of_words}

-- ---- one row
coordinate_ok : (line : ℕ) (word : Piece) (text : List ℕ) (x : Fraction) → word.text ≡ text → value_of_text text ≡ Some x → coordinate_in line word ≡ Ok x
coordinate_ok line word text x e h = ap (λ (o : Option Fraction). coordinate_or_fault line word o) (ap value_of_text e ∙ h)

three_ok : (line : ℕ) (words : List Piece) (a b c : List ℕ) (x y z : Fraction) → texts words ≡ a ∷ b ∷ c ∷ [] →
    value_of_text a ≡ Some x → value_of_text b ≡ Some y → value_of_text c ≡ Some z
    → point_in line words ≡ Ok (record { x = x; y = y; z = z })
three_ok line [] a b c x y z e f g h = absurd (cc)
three_ok line (p ∷ []) a b c x y z e f g h = absurd (cc)
three_ok line (p ∷ q ∷ []) a b c x y z e f g h = absurd (cc)
three_ok line (p ∷ q ∷ r ∷ more) a b c x y z e f g h =
    let first = coordinate_ok line p a x (cc) f in
    let second = coordinate_ok line q b y (cc) g in
    let third = coordinate_ok line r c z (cc) h in
    λ i. point_of_three (first i) (second i) (third i)

abbrev v_word : List ℕ
v_word = 118 ∷ []

v_is_word : IsWord v_word
v_is_word = literal_word v_word refl (omega arith)

-- the words behind `v`
abbrev coordinates : ℕ → DecimalPoint → List (List ℕ)
coordinates places p = coordinate_text places p.x ∷ coordinate_text places p.y ∷ coordinate_text places p.z ∷ []

coordinates_words : (places : ℕ) (p : DecimalPoint) → IsPointBelow places p → All IsWord (coordinates places p)
coordinates_words places p h =
    three_words (coordinate_text places p.x) (coordinate_text places p.y) (coordinate_text places p.z)
    (coordinate_word places p.x h.x) (coordinate_word places p.y h.y) (coordinate_word places p.z h.z)

vertex_words : (places line : ℕ) (content : Content) (words : List Piece) (p : DecimalPoint) → IsPointBelow places p →
    texts words ≡ v_word ∷ coordinates places p
    → after_words line content words ≡ Ok (record { points = content.points ++ read_point places p ∷ []; facets = content.facets })
vertex_words places line content [] p h e = absurd (cc)
vertex_words places line content (w ∷ more) p h e =
    let keyword : w.text ≡ v_word = cc in
    let rest : texts more ≡ coordinates places p = cc in
    ap (λ (l : List ℕ). after_keyword line content (keyword_of l) more) keyword
    ∙ ap (with_point content) (three_ok line more (coordinate_text places p.x) (coordinate_text places p.y)
    (coordinate_text places p.z) (read_value places p.x) (read_value places p.y) (read_value places p.z) rest
    (coordinate_is_read places p.x h.x).is (coordinate_is_read places p.y h.y).is (coordinate_is_read places p.z h.z).is)

abbrev vertex_row : ℕ → ℕ → ℕ → DecimalPoint → Row
vertex_row places n s p = row_at n s v_word (coordinates places p)

-- ---- all rows
-- what is read of points and of what follows them
pub record AreVertices (places n s : ℕ) (ps : List DecimalPoint) (rest : List ℕ) (content : Content) : Type 0 where
  pub next : ℕ
  pub is : after_rows (Ok content) (rows_from n (lines_from s (flat_map (obj_vertex places) ps ++ rest)))
      ≡ after_rows (Ok (record { points = content.points ++ map (read_point places) ps; facets = content.facets }))
      (rows_from (n + length ps) (lines_from next rest))

-- points behind those of a content
abbrev pub with_points : Content → List Point → Content
with_points content points = record { points = points; facets = content.facets }

first_vertex : (places n s : ℕ) (p : DecimalPoint) (rest : List ℕ) → IsPointBelow places p
    → rows_from n (lines_from s (obj_vertex places p ++ rest)) ≡ vertex_row places n s p
    ∷ rows_from (n + 1) (lines_from (s + length (joined v_word (coordinates places p)) + 1) rest)
unfolding obj_vertex point_line
first_vertex places n s p rest h = row_of_words n s v_word (coordinates places p) rest v_is_word (coordinates_words places p h)

pub vertices : (places n s : ℕ) (ps : List DecimalPoint) (rest : List ℕ) (content : Content) →
    All (IsPointBelow places) ps → AreVertices places n s ps rest content
vertices places n s [] rest content h =
    let none : n ≡ n + 0 = omega arith in
    record {
      next = s;
      is = ap (λ (k : ℕ). after_rows (Ok content) (rows_from k (lines_from s rest))) none
          ∙ ap (λ (l : List Point). after_rows (Ok (with_points content l)) (rows_from (n + 0) (lines_from s rest))) (sym (append-nil content.points));
    }
vertices places n s (p ∷ ps) rest content h =
    let below = All-head (IsPointBelow places) p ps h in
    let start = s + length (joined v_word (coordinates places p)) + 1 in
    let q = read_point places p in
    let after = flat_map (obj_vertex places) ps ++ rest in
    let more = vertices places (n + 1) start ps rest (with_points content (content.points ++ q ∷ [])) (All-tail (IsPointBelow places) p ps h) in
    let line : n + 1 + length ps ≡ n + suc (length ps) = omega arith in
    let row = vertex_row places n s p in
    record {
      next = more.next;
      is = ap (λ (l : List ℕ). after_rows (Ok content) (rows_from n (lines_from s l)))
          (append_assoc (obj_vertex places p) (flat_map (obj_vertex places) ps) rest)
          ∙ ap (λ (l : List Row). after_rows (Ok content) l) (first_vertex places n s p after below)
          ∙ ap (λ (r : Result Content Fault). after_rows r (rows_from (n + 1) (lines_from start after)))
          (vertex_words places n content row.words p below (joined_words s v_word (coordinates places p) v_is_word (coordinates_words places p below)))
          ∙ more.is
          ∙ ap (λ (l : List Point). after_rows (Ok (with_points content l))
          (rows_from (n + 1 + length ps) (lines_from more.next rest)))
          (append_assoc content.points (q ∷ []) (map (read_point places) ps))
          ∙ ap (λ (k : ℕ). after_rows (Ok (with_points content (content.points ++ map (read_point places) (p ∷ ps))))
          (rows_from k (lines_from more.next rest))) line;
    }
