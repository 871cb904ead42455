-- Lists of faces and triangles: winding numbers, vectors, balance, scenes
use Rattle.std.specs.Prelude.{◌≡◌, ℕ, ◌≤◌, nat_eq, ℤ, ◌-ℤ◌, Bool, not, ◌&&◌, List, [], ◌∷◌, map, filter, length, All}
use Rattle.std.specs.List.{range_with_len}
use Rattle.ember_algebra.specs.Sign.{is_zero}
use Rattle.ember_algebra.specs.Sums.{total, occurrences}
use Rattle.ember_model.specs.declared.point.Corner.{Corner}
use Rattle.ember_model.specs.declared.point.Spot.{Spot}
use Rattle.ember_model.specs.declared.point.Axis.{Axis}
use Rattle.ember_model.specs.declared.tri.Tri.{Tri}
use Rattle.ember_model.specs.declared.face.Face.{Face}
use Rattle.ember_model.specs.Faces.{is_flat, face_of, crossing}
use Rattle.ember_model.specs.Limits.{most_triangles, most_meshes}
use Rattle.ember_model.specs.Valid.{IsValidTri}

-- the winding number: the signed crossings of the ray from p along a with all faces
abbrev pub wind : Axis → List Face → Spot → ℤ
wind a fs p = total (λ f. crossing f a p) fs

-- the faces of the triangles that have one, in order
abbrev pub faces_of : List Tri → List Face
faces_of ts = map face_of (filter (λ t. not (is_flat t)) ts)

-- the triangles with this mesh number
abbrev pub of_mesh : ℕ → List Tri → List Tri
of_mesh m ts = filter (λ t. nat_eq t.mesh m) ts

-- the mesh numbers, 1 to 64
unfoldable pub meshes : List ℕ
meshes = range_with_len 1 64

-- the winding numbers of meshes 1 to 64
abbrev pub vector : Axis → List Tri → Spot → List ℤ
vector a ts p = map (λ m. wind a (faces_of (of_mesh m ts)) p) meshes

-- ---- balance
-- a directed edge
pub record Edge : Type 0 where
  pub from : Corner
  pub to : Corner

abbrev pub reversed : Edge → Edge
reversed e = record { from = e.to; to = e.from }

-- the directed edges of the triangles
abbrev pub edges_in : List Tri → List Edge
edges_in [] = []
edges_in (t ∷ ts) =
    record { from = t.a; to = t.b } ∷ record { from = t.b; to = t.c } ∷ record { from = t.c; to = t.a } ∷ edges_in ts

abbrev pub same_corner : Corner → Corner → Bool
same_corner u v = is_zero (u.x -ℤ v.x) && (is_zero (u.y -ℤ v.y) && is_zero (u.z -ℤ v.z))

abbrev pub same_edge : Edge → Edge → Bool
same_edge e f = same_corner e.from f.from && same_corner e.to f.to

-- how often an edge occurs
abbrev pub edge_count : Edge → List Edge → ℕ
edge_count e es = occurrences same_edge e es

-- each directed edge occurs as often as its reverse: the surface is closed
abbrev pub IsBalanced : List Tri → Type 0
IsBalanced ts = (e : Edge) → edge_count e (edges_in ts) ≡ edge_count (reversed e) (edges_in ts)

-- ---- scenes
-- the triangle's mesh number is from 1 to `most`
pub record HasMesh (most : ℕ) (t : Tri) : Type 0 where
  pub first : 1 ≤ t.mesh
  pub last : t.mesh ≤ most

-- valid triangles of at most 64 meshes, each of them balanced
pub record IsScene (ts : List Tri) (count : ℕ) : Type 0 where
  pub valid : All IsValidTri ts
  pub few : length ts ≤ most_triangles
  pub few_meshes : count ≤ most_meshes
  pub numbered : All (HasMesh count) ts
  pub balanced : (m : ℕ) → IsBalanced (of_mesh m ts)
