-- Directed edges, and closed lists of them
use Rattle.std.specs.Prelude.{◌≡◌, ℕ, ℤ, pos, ◌-ℤ◌, ◌<ℤ◌, Bool, false, not, ◌&&◌, cond}
use Rattle.std.specs.Prelude.{if◌then◌else◌, List, [], ◌∷◌, map}
use Rattle.std.specs.List.{AllByRecursion, count_by, flat_map}
use Rattle.ember_algebra.specs.Vector.{Vector, dot, cross}
use Rattle.ember_algebra.specs.Sign.{is_negative, is_zero, is_positive}
use Rattle.ember_algebra.specs.Sums.{total}
use Rattle.ember_model.specs.declared.point.Spot.{Spot}
use Rattle.ember_model.specs.declared.point.Axis.{Axis}
use Rattle.ember_model.specs.declared.tri.Tri.{Tri}
use Rattle.ember_model.specs.declared.face.Face.{Face}
use Rattle.ember_model.specs.Clear.{AreClear}
use Rattle.ember_model.specs.Meshes.{wind, faces_of}
use Rattle.ember_model.specs.Edges.{RingEdge, IsOutline}
use Rattle.ember_model.specs.FaceFiles.{WrittenFace}
use Rattle.ember_model.specs.Points.{displacement}
use Rattle.ember_poly.specs.Outlines.{face_of_edges}

-- an edge with a direction, from one corner to another
pub record DirectedEdge : Type 0 where
  pub from : Spot
  pub to : Spot

-- ---- places and lines

abbrev pub is_zero_vector : Vector → Bool
is_zero_vector v = is_zero v.x && (is_zero v.y && is_zero v.z)

-- u and v are one rational point
abbrev pub is_same_point : Spot → Spot → Bool
is_same_point u v = is_zero_vector (displacement u v)

-- u lies on the line through x along d
abbrev pub is_on_line : Spot → Vector → Spot → Bool
is_on_line x d u = is_zero_vector (cross (displacement u x) d)

-- the edge runs along d or against it
abbrev pub is_parallel : Vector → DirectedEdge → Bool
is_parallel d e = is_zero_vector (cross (displacement e.from e.to) d)

-- ---- closed
-- how many edges along or against d start at x, and how many end there
abbrev pub starts_at : Spot → Vector → List DirectedEdge → ℕ
starts_at x d es = count_by (λ e. is_same_point e.from x && is_parallel d e) es

abbrev pub ends_at : Spot → Vector → List DirectedEdge → ℕ
ends_at x d es = count_by (λ e. is_same_point e.to x && is_parallel d e) es

-- take any line, by its direction d, and any point x on it: of the edges on this line, as many start at x as
-- end there
abbrev pub IsClosed : List DirectedEdge → Type 0
IsClosed es =
    (x : Spot) (d : Vector) → pos 0 <ℤ x.w → is_zero_vector d ≡ false → starts_at x d es ≡ ends_at x d es

-- ---- coverage
-- 1 if x doesn't lie before u along d
abbrev pub reached : Vector → Spot → Spot → ℤ
reached d u x = cond (is_negative (dot (displacement u x) d)) (pos 0) (pos 1)

-- 1 if the edge runs along d over the points just after x on the line through x, -1 if it runs against d, 0
-- elsewhere
abbrev pub coverage : Spot → Vector → DirectedEdge → ℤ
coverage x d e =
    if is_parallel d e && is_on_line x d e.from then reached d e.from x -ℤ reached d e.to x else pos 0

-- just after each point in each direction as many edges run on as run back
abbrev pub IsEvenlyCovered : List DirectedEdge → Type 0
IsEvenlyCovered es =
    (x : Spot) (d : Vector) → pos 0 <ℤ x.w → is_zero_vector d ≡ false → total (coverage x d) es ≡ pos 0

-- ---- pieces of lines
-- v lies ahead of u along d
abbrev pub is_ahead : Spot → Vector → Spot → Bool
is_ahead u d v = is_positive (dot (displacement u v) d)

-- u lies strictly between x and y, on their line
abbrev pub is_between : Spot → Spot → Spot → Bool
is_between x y u =
    is_on_line x (displacement x y) u && (is_ahead x (displacement x y) u && is_ahead u (displacement x y) y)

-- neither end of the edge lies strictly between x and y
pub record IsUnbroken (x y : Spot) (e : DirectedEdge) : Type 0 where
  pub from : is_between x y e.from ≡ false
  pub to : is_between x y e.to ≡ false

-- the edge runs on their line in the direction from x to y, starts at x or before it, and ends at y or after it
abbrev pub leads_over : Spot → Spot → DirectedEdge → Bool
leads_over x y e =
    is_parallel (displacement x y) e && is_on_line x (displacement x y) e.from &&
    (not (is_ahead x (displacement x y) e.from) && not (is_ahead e.to (displacement x y) y))

-- each piece of a line that no edge starts or ends within is led over as often one way as the other
abbrev pub ArePiecesPaired : List DirectedEdge → Type 0
ArePiecesPaired es =
    (x y : Spot) → pos 0 <ℤ x.w → pos 0 <ℤ y.w → is_same_point x y ≡ false → AllByRecursion
    (IsUnbroken x y) es → count_by (leads_over x y) es ≡ count_by (leads_over y x) es

-- ---- written faces
-- the edges of an outline, each from its start corner to that of the next, the last to the corner `end`
abbrev pub edges_to : Spot → List RingEdge → List DirectedEdge
edges_to end [] = []
edges_to end (e ∷ []) = record { from = e.start; to = end } ∷ []
edges_to end (e ∷ d ∷ es) = record { from = e.start; to = d.start } ∷ edges_to end (d ∷ es)

-- once round
abbrev pub directed_edges : List RingEdge → List DirectedEdge
directed_edges [] = []
directed_edges (e ∷ es) = edges_to e.start (e ∷ es)

-- the edges of all faces are closed
abbrev pub IsClosedSurface : List WrittenFace → Type 0
IsClosedSurface ws = IsClosed (flat_map (λ w. directed_edges w.edges) ws)

-- each piece of them is led over as often one way as the other
abbrev pub HavePairedPieces : List WrittenFace → Type 0
HavePairedPieces ws = ArePiecesPaired (flat_map (λ w. directed_edges w.edges) ws)

-- the face with the edge planes of its written edges. `face_in` of ember_reread and `written_face` of
-- ember_verdict are the
-- same map
abbrev pub face_from : WrittenFace → Face
face_from w = face_of_edges w.support w.edges

-- the written edges are the outline of that face
abbrev pub IsOutlined : WrittenFace → Type 0
IsOutlined w = IsOutline (face_from w) w.edges

-- so are those of each of these faces
abbrev pub AreOutlined : List WrittenFace → Type 0
AreOutlined ws = AllByRecursion IsOutlined ws

-- at each point that is clear of the triangles and of the faces, the faces wind alike along all axes
abbrev pub AxesAgreeOffScene : List Tri → List Face → Type 0
AxesAgreeOffScene ts fs =
    (a b : Axis) (p : Spot) → pos 0 <ℤ p.w → AreClear (faces_of ts) p → AreClear fs p → wind a fs p ≡ wind b fs p

-- the same of the faces of written edges
abbrev pub AgreeOffScene : List Tri → List WrittenFace → Type 0
AgreeOffScene ts ws = AxesAgreeOffScene ts (map face_from ws)
