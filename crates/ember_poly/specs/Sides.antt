-- The sides of a ring from its lists, and what a ring keeps
use Rattle.std.specs.Prelude.{◌≡◌, ◌⊎◌, ℕ, ◌≤◌, List, [], ◌∷◌, Some, slice_get, length, All, pos, ⊤}
use Rattle.std.specs.List.{AllByRecursion}
use Rattle.ember_model.specs.declared.plane.Plane.{Plane}
use Rattle.ember_model.specs.declared.point.Spot.{Spot}
use Rattle.ember_model.specs.declared.face.Face.{Face}
use Rattle.ember_model.specs.Planes.{value_at}
use Rattle.ember_model.specs.Edges.{SamePoint, RingEdge, IsOutline}
use Rattle.ember_poly.specs.Rings.{Side, IsInClosedRing, Represents}

-- here M is the type of corners, and spot gives the point that a corner represents

-- the sides of three lists: edge planes, start corners and indices
abbrev pub sides_of : {M : Type 0} → (M → Spot) → List Plane → List M → List ℕ → List Side
sides_of spot [] ms bs = []
sides_of spot (e ∷ es) [] bs = []
sides_of spot (e ∷ es) (m ∷ ms) [] = []
sides_of spot (e ∷ es) (m ∷ ms) (b ∷ bs) =
    record { plane = e; corner = spot m; plane_index = b } ∷ sides_of spot es ms bs

-- the first side is the oldest: its plane has the lowest index
abbrev pub OldestFirst : List Side → Type 0
OldestFirst [] = ⊤
OldestFirst (s ∷ xs) = AllByRecursion (λ r. s.plane_index ≤ r.plane_index) xs

-- some side's plane is the one with this index
pub record HasPlaneIndex (index : ℕ) (xs : List Side) : Type 0 where
  pub at : ℕ
  pub side : Side
  pub here : slice_get xs at ≡ Some side
  pub plane_index : side.plane_index ≡ index

-- the plane is 0 at one corner of the closed ring at most
abbrev pub IsZeroAtOnePoint : Plane → List Side → Plane → Type 0
IsZeroAtOnePoint n xs h =
    (u v : Spot) → IsInClosedRing n xs u → IsInClosedRing n xs v → value_at h u ≡ pos 0 → value_at h v ≡ pos 0 →
    SamePoint u v

-- each plane of the face is that of a side, or its edge doesn't count
abbrev pub EachHasSideOrNoEdge : Plane → List Plane → List Side → Type 0
EachHasSideOrNoEdge n gs xs =
    (i : ℕ) (h : Plane) → slice_get gs i ≡ Some h → HasPlaneIndex i xs ⊎ IsZeroAtOnePoint n xs h

-- what a ring keeps: the support plane, all planes, and the edges with their corners and plane indices. IsPlane says
-- which planes are allowed
pub record IsRing {M : Type 0} (IsPlane : Plane → Type 0) (spot : M → Spot) (n : Plane) (gs es : List Plane)
    (ms : List M) (bs : List ℕ) : Type 0 where
  pub represents : Represents n gs (sides_of spot es ms bs)
  pub oldest : OldestFirst (sides_of spot es ms bs)
  pub counted : EachHasSideOrNoEdge n gs (sides_of spot es ms bs)
  pub corners : length ms ≡ length es
  pub plane_indices : length bs ≡ length es
  pub support : IsPlane n
  pub planes : All IsPlane gs

-- ---- the edges with their start corners
abbrev pub ring_edges : {M : Type 0} → (M → Spot) → List Plane → List M → List RingEdge
ring_edges spot [] ms = []
ring_edges spot (e ∷ es) [] = []
ring_edges spot (e ∷ es) (m ∷ ms) = record { plane = e; start = spot m } ∷ ring_edges spot es ms

-- the edge planes of the outline of f, in order
pub record AreEdges {M : Type 0} (spot : M → Spot) (f : Face) (es : List Plane) : Type 0 where
  pub starts : List M
  pub outline : IsOutline f (ring_edges spot es starts)
  pub paired : length starts ≡ length es
  pub three : 3 ≤ length es

-- the start corners of the outline of f, in order
pub record AreCorners {M : Type 0} (spot : M → Spot) (f : Face) (ms : List M) : Type 0 where
  pub planes : List Plane
  pub outline : IsOutline f (ring_edges spot planes ms)
  pub paired : length ms ≡ length planes
  pub three : 3 ≤ length ms
