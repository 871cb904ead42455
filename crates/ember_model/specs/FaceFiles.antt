-- The text of faces, and the faces of a text
use Rattle.std.specs.Prelude.{◌≡◌, ℕ, ◌≤◌, List, [], ◌∷◌, ◌++◌, All, map, flat_map, length, codes}
use Rattle.std.specs.Prelude.{decimal, ℤ, pos, unsigned_abs}
use Rattle.std.specs.Fmt.{signed_decimal}
use Rattle.std.specs.Int.{◌∣◌}
use Rattle.ember_algebra.specs.Relations.{Each}
use Rattle.ember_model.specs.declared.plane.Plane.{Plane}
use Rattle.ember_model.specs.declared.point.Spot.{Spot}
use Rattle.ember_model.specs.declared.face.Face.{Face}
use Rattle.ember_model.specs.Valid.{IsValidPlane, IsValidMeet}
use Rattle.ember_model.specs.Edges.{RingEdge, IsOutline}

-- a list of numbers, a space before each
abbrev pub fields : List ℤ → List ℕ
fields zs = flat_map (λ z. codes " " ++ signed_decimal z) zs

-- a line of a face file: a keyword, and numbers with a space before each
abbrev pub line_of : List ℕ → List ℤ → List ℕ
line_of keyword zs = keyword ++ fields zs ++ codes "\n"

-- the line of an edge: its plane and its start corner
abbrev pub edge_line : RingEdge → List ℕ
edge_line e =
    line_of (codes "e") (e.plane.a ∷ e.plane.b ∷ e.plane.c ∷ e.plane.d ∷ e.start.x ∷ e.start.y ∷ e.start.z ∷
    e.start.w ∷ [])

-- the line of a support plane and the number of edges
abbrev pub support_line : Plane → ℕ → List ℕ
support_line n count = line_of (codes "f") (n.a ∷ n.b ∷ n.c ∷ n.d ∷ pos count ∷ [])

-- the lines of a face
abbrev pub face_lines : Plane → List RingEdge → List ℕ
face_lines n es = support_line n (length es) ++ flat_map edge_line es

-- the first line of a face file
abbrev pub header : List ℕ
header = codes "ember 1\n"

-- the last line of a face file, with the number of faces
abbrev pub ending : ℕ → List ℕ
ending n = codes "end " ++ decimal n ++ codes "\n"

-- 1 is the only common divisor of the four numbers
pub record IsLowest (v : Spot) : Type 0 where
  pub lowest : (k : ℕ) → k ∣ unsigned_abs v.x → k ∣ unsigned_abs v.y → k ∣ unsigned_abs v.z → k ∣ unsigned_abs v.w →
      k ≡ 1

-- ---- writing
-- the text of f: its outline with corners in lowest terms
pub record IsFaceText (f : Face) (bytes : List ℕ) : Type 0 where
  pub outline : List RingEdge
  pub is_outline : IsOutline f outline
  pub lowest : All (λ e. IsLowest e.start) outline
  pub is : bytes ≡ face_lines f.support outline

-- ---- reading
-- a corner as a face file has it: valid and in lowest terms
pub record IsWrittenCorner (v : Spot) : Type 0 where
  pub valid : IsValidMeet v
  pub lowest : IsLowest v

-- an edge as a face file has it
pub record IsWrittenEdge (e : RingEdge) : Type 0 where
  pub plane : IsValidPlane e.plane
  pub start : IsWrittenCorner e.start

-- a face as it is written
pub record WrittenFace : Type 0 where
  pub support : Plane
  pub edges : List RingEdge

-- a face as a face file has it: at least three edges, and all numbers in range
pub record IsWrittenFace (w : WrittenFace) : Type 0 where
  pub support : IsValidPlane w.support
  pub edges : All IsWrittenEdge w.edges
  pub at_least_three : 3 ≤ length w.edges

-- bytes is a face file, and holds the faces fs
pub record IsFaceFile (bytes : List ℕ) (fs : List Face) : Type 0 where
  pub written : List WrittenFace
  pub well_formed : All IsWrittenFace written
  pub is : bytes ≡ header ++ flat_map (λ w. face_lines w.support w.edges) written ++ ending (length written)
  pub faces : fs ≡ map (λ w. record { support = w.support; edges = map (λ e. e.plane) w.edges }) written

-- the text of a file of the faces fs: the header, their texts in order, and the last line with their number
pub record IsFileText (fs : List Face) (bytes : List ℕ) : Type 0 where
  pub texts : List ℕ
  pub are_texts : Each IsFaceText fs texts
  pub is : bytes ≡ header ++ (texts ++ ending (length fs))

-- the lines of a written face
abbrev pub written_lines : WrittenFace → List ℕ
written_lines w = face_lines w.support w.edges
