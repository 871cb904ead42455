-- What is known of the written regions of a leaf
use Rattle.std.specs.Prelude.{◌≡◌, ℕ, ◌<◌, ◌≤◌, false, List, length, All, map}
use Rattle.std.specs.List.{AllPairs}
use Rattle.ember_model.specs.declared.tri.Tri.{Tri}
use Rattle.ember_model.specs.declared.face.Face.{Face}
use Rattle.ember_model.specs.Planes.{support_of}
use Rattle.ember_model.specs.Faces.{is_flat}
use Rattle.ember_box.specs.Near.{tri_at}
use Rattle.ember_point.specs.declared.meet_point.Meet.{Meet}
use Rattle.ember_width.specs.declared.width.Width.{Ghosts}
use Rattle.ember_width.specs.declared.narrow.Narrow.{Narrow}
use Rattle.ember_trace.specs.declared.near_triangle.NearTriangle.{NearTriangle}
use Rattle.ember_trace.specs.NearTriangles.{tri_of}
use Rattle.ember_leaf.specs.declared.kept.Kept.{Kept}

-- a written region on the narrow grid
abbrev pub NarrowKept : Type 0
NarrowKept = Kept Narrow Meet

-- a face in the plane of the triangle, which isn't flat; it needn't be one of the triangle's regions
pub record LiesInPlaneOf (t : Tri) (f : Face) : Type 0 where
  pub normal : is_flat t ≡ false
  pub support : f.support ≡ support_of t

-- a written region of triangle i, which is t
pub record IsKeptOf {W M : Type 0} (t : Tri) (i : ℕ) (k : Kept W M) : Type 0 where
  pub number : k.tri ≡ i
  pub plane : LiesInPlaneOf t k.ring

-- a written region whose triangle is in the list
pub record IsPlaced {W M : Type 0} (ts : List Tri) (k : Kept W M) : Type 0 where
  pub index : k.tri < length ts
  pub plane : LiesInPlaneOf (tri_at ts k.tri) k.ring

-- written regions of triangles of the list, in the order of their triangles
pub record ArePlaced {W M : Type 0} (ts : List Tri) (ks : List (Kept W M)) : Type 0 where
  pub each : All (IsPlaced ts) ks
  pub ordered : AllPairs (λ k l. k.tri ≤ l.tri) ks

-- the same, of the first n triangles alone
pub record ArePlacedBelow {W M : Type 0} (ts : List Tri) (n : ℕ) (ks : List (Kept W M)) : Type 0 where
  pub placed : ArePlaced ts ks
  pub below : All (λ k. k.tri < n) ks

-- the triangles alone
abbrev pub tris_of : {W M : Type 0} {G : Ghosts W M} → List (NearTriangle W M G) → List Tri
tris_of triangles = map tri_of triangles
