-- The points of the rows of an OFF file
use Rattle.std.proofs.Common.{◌≡◌, ℕ, suc, ◌+◌, List, [], ◌∷◌, ◌++◌, length, map, append_assoc, Option, Some, Ok, refl, ap, ap₂, ◌∙◌, arith}
use Rattle.std.specs.Prelude.{All, flat_map}
use Rattle.std.proofs.lemmas.List.Elements.{All-head, All-tail}
use Rattle.mesh_write.specs.Text.Lines.{coordinate_text, point_line}
use Rattle.mesh_number.specs.Number.Fractions.{Fraction}
use Rattle.mesh_number.specs.Number.Texts.{value_of_text}
use Rattle.mesh_read.specs.Surface.Surfaces.{point_of_three}
use Rattle.mesh_read.specs.Off.ReadOff.{coordinate_or_fault, coordinate_in, point_of_words, point_in, points_of, one, joined as joined_points}
use Rattle.mesh_read.specs.Off.Rows.{Words, rows_from}
use Rattle.mesh_read.specs.Scan.Parts.{Piece, lines_from, first_three}
use Rattle.mesh_write.specs.declared.vertices.point.DecimalPoint.{DecimalPoint}
use Rattle.mesh_write.specs.Reading.Readings.{IsPointBelow}
use Rattle.mesh_write.proofs.Coordinates.{read_value, coordinate_is_read}
use Rattle.mesh_write.proofs.Contents.{read_point}
use Rattle.mesh_write.proofs.Lines.{joined, texts, joined_words}
use Rattle.mesh_write.proofs.WordTexts.{coordinate_word, other_coordinates, other_coordinates_words}
use Rattle.mesh_write.proofs.OffRows.{row_at, row_of_words}

-- ---- one row
coordinate_ok : (line : ℕ) (word : Piece) (text : List ℕ) (x : Fraction) → word.text ≡ text → value_of_text text ≡ Some x → coordinate_in line word ≡ Ok x
coordinate_ok line word text x e h = ap (λ (o : Option Fraction). coordinate_or_fault line word o) (ap value_of_text e ∙ h)

three_ok : (line : ℕ) (words : List Piece) (a b c : List ℕ) (x y z : Fraction) → texts words ≡ a ∷ b ∷ c ∷ [] →
    value_of_text a ≡ Some x → value_of_text b ≡ Some y → value_of_text c ≡ Some z
    → point_of_words line (first_three words) ≡ Ok (record { x = x; y = y; z = z })
three_ok line [] a b c x y z e f g h = absurd (cc)
three_ok line (p ∷ []) a b c x y z e f g h = absurd (cc)
three_ok line (p ∷ q ∷ []) a b c x y z e f g h = absurd (cc)
three_ok line (p ∷ q ∷ r ∷ more) a b c x y z e f g h =
    let first = coordinate_ok line p a x (cc) f in
    let second = coordinate_ok line q b y (cc) g in
    let third = coordinate_ok line r c z (cc) h in
    λ i. point_of_three (first i) (second i) (third i)

abbrev vertex_row : ℕ → ℕ → ℕ → DecimalPoint → Words
vertex_row places n s p = row_at n s (coordinate_text places p.x) (other_coordinates places p)

vertex_ok : (places n s : ℕ) (p : DecimalPoint) → IsPointBelow places p → point_in (vertex_row places n s p) ≡ Ok (read_point places p)
vertex_ok places n s p h =
    three_ok n (vertex_row places n s p).words (coordinate_text places p.x) (coordinate_text places p.y)
    (coordinate_text places p.z) (read_value places p.x) (read_value places p.y) (read_value places p.z)
    (joined_words s (coordinate_text places p.x) (other_coordinates places p) (coordinate_word places p.x h.x) (other_coordinates_words places p h))
    (coordinate_is_read places p.x h.x).is (coordinate_is_read places p.y h.y).is (coordinate_is_read places p.z h.z).is

-- ---- all rows
-- the rows of so many points at the front of a text
pub record AreVertices (places n s : ℕ) (ps : List DecimalPoint) (rest : List ℕ) : Type 0 where
  pub rows : List Words
  pub next : ℕ
  pub is : rows_from n (lines_from s (flat_map (point_line places) ps ++ rest)) ≡ rows ++ rows_from (n + length ps) (lines_from next rest)
  pub count : length rows ≡ length ps
  pub points : points_of rows ≡ Ok (map (read_point places) ps)

first_vertex : (places n s : ℕ) (p : DecimalPoint) (rest : List ℕ) → IsPointBelow places p
    → rows_from n (lines_from s (point_line places p ++ rest)) ≡ vertex_row places n s p
    ∷ rows_from (n + 1) (lines_from (s + length (joined (coordinate_text places p.x) (other_coordinates places p))
    + 1) rest)
unfolding point_line
first_vertex places n s p rest h =
    row_of_words n s (coordinate_text places p.x) (other_coordinates places p) rest (coordinate_word places p.x h.x) (other_coordinates_words places p h)

pub vertices : (places n s : ℕ) (ps : List DecimalPoint) (rest : List ℕ) → All (IsPointBelow places) ps → AreVertices places n s ps rest
vertices places n s [] rest h =
    let none : n ≡ n + 0 = omega arith in
    record { rows = []; next = s; is = ap (λ (k : ℕ). rows_from k (lines_from s rest)) none; count = refl; points = refl }
vertices places n s (p ∷ ps) rest h =
    let below = All-head (IsPointBelow places) p ps h in
    let start = s + length (joined (coordinate_text places p.x) (other_coordinates places p)) + 1 in
    let more = vertices places (n + 1) start ps rest (All-tail (IsPointBelow places) p ps h) in
    let line : n + 1 + length ps ≡ n + suc (length ps) = omega arith in
    let row = vertex_row places n s p in
    record {
      rows = row ∷ more.rows;
      next = more.next;
      is = ap (λ (l : List ℕ). rows_from n (lines_from s l)) (append_assoc (point_line places p) (flat_map (point_line places) ps) rest)
          ∙ first_vertex places n s p (flat_map (point_line places) ps ++ rest) below
          ∙ ap (λ (l : List Words). row ∷ l) (more.is ∙ ap (λ (k : ℕ). more.rows ++ rows_from k (lines_from more.next rest)) line);
      count = ap suc more.count;
      points = ap₂ (λ a b. joined_points (one a) b) (vertex_ok places n s p below) more.points;
    }
