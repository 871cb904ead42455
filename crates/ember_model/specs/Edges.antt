-- The edges of a face, in their order round it
use Rattle.std.specs.Prelude.{◌≡◌, ◌⊎◌, ℕ, ◌<◌, Bool, true, ◌&&◌, List, [], ◌∷◌, Some, slice_get, ℤ}
use Rattle.std.specs.Prelude.{◌*ℤ◌, ◌<ℤ◌, ◌≤ℤ◌, ⊤}
use Rattle.std.specs.List.{AllByRecursion}
use Rattle.ember_algebra.specs.Vector.{Vector}
use Rattle.ember_algebra.specs.Vector.{dot, cross}
use Rattle.ember_algebra.specs.Sign.{is_zero}
use Rattle.ember_model.specs.declared.plane.Plane.{Plane}
use Rattle.ember_model.specs.declared.point.Spot.{Spot}
use Rattle.ember_model.specs.declared.face.Face.{Face}
use Rattle.ember_model.specs.Planes.{value_at}
use Rattle.ember_model.specs.Faces.{is_in_closed}

-- u and v are one rational point
pub record SamePoint (u v : Spot) : Type 0 where
  pub x : v.w *ℤ u.x ≡ u.w *ℤ v.x
  pub y : v.w *ℤ u.y ≡ u.w *ℤ v.y
  pub z : v.w *ℤ u.z ≡ u.w *ℤ v.z

-- the points of the closed face at which the plane is 0
abbrev pub is_on_edge : Face → Plane → Spot → Bool
is_on_edge f g v = is_in_closed f v && is_zero (value_at g v)

-- the edge of g has two different points
pub record HasEdge (f : Face) (g : Plane) : Type 0 where
  pub one : Spot
  pub other : Spot
  pub holds_one : is_on_edge f g one ≡ true
  pub holds_other : is_on_edge f g other ≡ true
  pub different : SamePoint one other → ⊥

-- g and h give one edge
abbrev pub SameEdge : Face → Plane → Plane → Type 0
SameEdge f g h = (v : Spot) → is_on_edge f g v ≡ is_on_edge f h v

-- g is the earliest plane of the list with the property
pub record IsEarliest (P : Plane → Type 0) (gs : List Plane) (g : Plane) : Type 0 where
  pub index : ℕ
  pub here : slice_get gs index ≡ Some g
  pub holds : P g
  pub earliest : (i : ℕ) (h : Plane) → i < index → slice_get gs i ≡ Some h → P h → ⊥

-- ---- the way along an edge, counter-clockwise seen from the front
-- the normal of a plane as a vector
abbrev pub normal : Plane → Vector
normal p = record { x = p.a; y = p.b; z = p.c }

-- how far v lies along n × g, times its weight
abbrev pub position_along : Plane → Plane → Spot → ℤ
position_along n g v = dot (cross (normal n) (normal g)) (record { x = v.x; y = v.y; z = v.z })

-- u lies before v along the edge
pub record IsBefore (n g : Plane) (u v : Spot) : Type 0 where
  pub before : (v.w *ℤ position_along n g u) <ℤ (u.w *ℤ position_along n g v)

-- u doesn't lie after v along the edge
pub record IsNotAfter (n g : Plane) (u v : Spot) : Type 0 where
  pub not_after : (v.w *ℤ position_along n g u) ≤ℤ (u.w *ℤ position_along n g v)

-- ---- the outline
-- an edge plane, and the corner at which its edge starts
pub record RingEdge : Type 0 where
  pub plane : Plane
  pub start : Spot

-- e is an edge of f that ends at the corner `end`. Of the planes that give this edge its plane is the earliest
pub record IsEdge (f : Face) (e : RingEdge) (end : Spot) : Type 0 where
  pub is_earliest : IsEarliest (λ h. SameEdge f h e.plane) f.edges e.plane
  pub starts : is_on_edge f e.plane e.start ≡ true
  pub ends : is_on_edge f e.plane end ≡ true
  pub leads : IsBefore f.support e.plane e.start end
  pub from_start : (v : Spot) → is_on_edge f e.plane v ≡ true → IsNotAfter f.support e.plane e.start v
  pub to_end : (v : Spot) → is_on_edge f e.plane v ≡ true → IsNotAfter f.support e.plane v end

-- each edge ends where the next one starts, and the last one at the corner `end`
abbrev pub IsEdgeChain : Face → Spot → List RingEdge → Type 0
IsEdgeChain f end [] = ⊤
IsEdgeChain f end (e ∷ []) = IsEdge f e end
IsEdgeChain f end (e ∷ d ∷ es) = IsEdge f e d.start × IsEdgeChain f end (d ∷ es)

-- the edge of h is that of some member
abbrev pub HasEdgeOf : Face → Plane → List RingEdge → Type 0
HasEdgeOf f h [] = ⊥
HasEdgeOf f h (e ∷ es) = SameEdge f h e.plane ⊎ HasEdgeOf f h es

-- no two members have the same edge
abbrev pub HaveDistinctEdges : Face → List RingEdge → Type 0
HaveDistinctEdges f [] = ⊤
HaveDistinctEdges f (e ∷ es) = AllByRecursion (λ d. SameEdge f e.plane d.plane → ⊥) es × HaveDistinctEdges f es

-- all edges of f that count, once round, beginning with the one whose plane is the earliest
pub record IsOutline (f : Face) (es : List RingEdge) : Type 0 where
  pub first : RingEdge
  pub rest : List RingEdge
  pub begins : es ≡ first ∷ rest
  pub earliest : IsEarliest (λ h. HasEdge f h) f.edges first.plane
  pub round : IsEdgeChain f first.start es
  pub all : (i : ℕ) (h : Plane) → slice_get f.edges i ≡ Some h → HasEdge f h → HasEdgeOf f h es
  pub once : HaveDistinctEdges f es
