-- Rings: a closed list of sides, each an edge plane and the corner where its edge starts
use Rattle.std.specs.Prelude.{◌⊎◌, ◌≡◌, ℕ, ◌<◌, length, List, [], ◌∷◌, ◌++◌, ℤ, pos, ◌-ℤ◌, ◌*ℤ◌, ◌<ℤ◌, ◌≤ℤ◌, ⊤}
use lib.ListN.{get_or}
use Rattle.std.specs.List.{AllByRecursion}
use Rattle.ember_algebra.specs.Vector.{det}
use Rattle.ember_model.specs.declared.plane.Plane.{Plane}
use Rattle.ember_model.specs.declared.point.Spot.{Spot}
use Rattle.ember_model.specs.Planes.{value_at}
use Rattle.ember_model.specs.Edges.{normal}

-- an edge plane, the corner where its edge starts, and the index of the plane in the face's list
pub record Side : Type 0 where
  pub plane : Plane
  pub corner : Spot
  pub plane_index : ℕ

-- greater than 0 if g turns to h counter-clockwise, seen from the front of n
abbrev pub orientation : Plane → Plane → Plane → ℤ
orientation n g h = det (normal n) (normal g) (normal h)

-- the point lies below the plane
pub record IsBelow (p : Plane) (v : Spot) : Type 0 where
  pub under : value_at p v <ℤ pos 0

-- in the plane n the edge of g ends at the corner of s, where the edge of s turns from it
-- counter-clockwise
pub record IsCornerOf (n g : Plane) (s : Side) : Type 0 where
  pub flat : value_at n s.corner ≡ pos 0
  pub weight : pos 0 <ℤ s.corner.w
  pub before : value_at g s.corner ≡ pos 0
  pub after : value_at s.plane s.corner ≡ pos 0
  pub turns : pos 0 <ℤ orientation n g s.plane

-- an open chain: the edge g, and then the sides xs, each at the end of the one before.
-- The plane of an edge is negative at all corners but the edge's own two.
abbrev pub IsSideChain : Plane → Plane → List Side → Type 0
IsSideChain n g [] = ⊤
IsSideChain n g (s ∷ xs) =
    IsCornerOf n g s × AllByRecursion (λ t. IsBelow g t.corner) xs ×
    AllByRecursion (λ t. IsBelow t.plane s.corner) xs × IsSideChain n s.plane xs

-- the list isn't empty
abbrev pub IsNotEmpty : List Side → Type 0
IsNotEmpty [] = ⊥
IsNotEmpty (s ∷ xs) = ⊤

-- a ring: at least three sides, and a chain from its first edge and from its second. There are two, since a chain says
-- nothing of the corner at which its own edge starts: the chain from the edge of s leaves out the corner of s, and the
-- chain from the edge of t ends with it
abbrev pub IsConvexRing : Plane → List Side → Type 0
IsConvexRing n [] = ⊥
IsConvexRing n (s ∷ []) = ⊥
IsConvexRing n (s ∷ t ∷ xs) = IsNotEmpty xs × IsSideChain n s.plane (t ∷ xs) × IsSideChain n t.plane (xs ++ s ∷ [])

-- the last edge ends at t, and the others are negative there
abbrev pub EndsAt : Plane → Plane → List Side → Side → Type 0
EndsAt n g [] t = IsCornerOf n g t
EndsAt n g (s ∷ xs) t = IsBelow g t.corner × EndsAt n s.plane xs t

-- the point lies below the plane or on it
pub record IsNotAbove (p : Plane) (v : Spot) : Type 0 where
  pub at_most : value_at p v ≤ℤ pos 0

-- the points of the ring
pub record IsInsideRing (n : Plane) (xs : List Side) (v : Spot) : Type 0 where
  pub flat : value_at n v ≡ pos 0
  pub weight : pos 0 <ℤ v.w
  pub within : AllByRecursion (λ s. IsBelow s.plane v) xs

-- the points of the ring with its edges
pub record IsInClosedRing (n : Plane) (xs : List Side) (v : Spot) : Type 0 where
  pub flat : value_at n v ≡ pos 0
  pub weight : pos 0 <ℤ v.w
  pub within : AllByRecursion (λ s. IsNotAbove s.plane v) xs

-- the plane is no greater at v than at s
pub record IsNotHigher (p : Plane) (v s : Spot) : Type 0 where
  pub not_above : (value_at p v *ℤ s.w) ≤ℤ (value_at p s *ℤ v.w)

-- the inside points of a ring's face, by its support plane and all its edge planes: those of its
-- triangle and those that have cut it
pub record InFace (n : Plane) (gs : List Plane) (v : Spot) : Type 0 where
  pub flat : value_at n v ≡ pos 0
  pub weight : pos 0 <ℤ v.w
  pub within : AllByRecursion (λ g. IsBelow g v) gs

-- the points of the closed face
pub record InClosedFace (n : Plane) (gs : List Plane) (v : Spot) : Type 0 where
  pub flat : value_at n v ≡ pos 0
  pub weight : pos 0 <ℤ v.w
  pub within : AllByRecursion (λ g. IsNotAbove g v) gs

-- the side's plane is in the list at its plane index
pub record IsInPlanes (gs : List Plane) (s : Side) : Type 0 where
  pub index : s.plane_index < length gs
  pub here : get_or gs s.plane_index s.plane ≡ s.plane

-- the planes of the sides are in the list, and they alone decide: a point that is below all of them
-- is below all planes of the list, and likewise for `below or on`
pub record Represents (n : Plane) (gs : List Plane) (xs : List Side) : Type 0 where
  pub sound : IsConvexRing n xs
  pub listed : AllByRecursion (λ s. IsInPlanes gs s) xs
  pub follow : (v : Spot) → IsInsideRing n xs v → AllByRecursion (λ g. IsBelow g v) gs
  pub follow_closed : (v : Spot) → IsInClosedRing n xs v → AllByRecursion (λ g. IsNotAbove g v) gs

-- a point at which three planes meet
pub record IsMeet (n g p : Plane) (y : Spot) : Type 0 where
  pub first : value_at n y ≡ pos 0
  pub second : value_at g y ≡ pos 0
  pub third : value_at p y ≡ pos 0
  pub weight : pos 0 <ℤ y.w

-- the two sides that a cut makes
abbrev pub with_start : Side → Spot → Side
with_start f y = record f { corner = y }

abbrev pub closing_side : Plane → Spot → ℕ → Side
closing_side p y b = record { plane = p; corner = y; plane_index = b }

-- the point lies above the plane
pub record IsAbove (p : Plane) (v : Spot) : Type 0 where
  pub over : pos 0 <ℤ value_at p v

-- the point lies on the plane
pub record IsOnPlane (p : Plane) (v : Spot) : Type 0 where
  pub on_plane : value_at p v ≡ pos 0

-- the point lies above the plane or on it
pub record IsNotBelow (p : Plane) (v : Spot) : Type 0 where
  pub at_least : pos 0 ≤ℤ value_at p v

-- ---- edges
-- a plane across the edge of g: its value grows in the direction of this edge, counter-clockwise seen from the front
-- of n
abbrev pub edge_direction : Plane → Plane → Plane
edge_direction n g =
    record { a = n.b *ℤ g.c -ℤ n.c *ℤ g.b; b = n.c *ℤ g.a -ℤ n.a *ℤ g.c; c = n.a *ℤ g.b -ℤ n.b *ℤ g.a; d = pos 0 }

-- the plane is negative at all corners but one at most
abbrev pub IsBelowAllButOne : Plane → List Side → Type 0
IsBelowAllButOne h [] = ⊤
IsBelowAllButOne h (s ∷ xs) = (IsBelow h s.corner × IsBelowAllButOne h xs) ⊎ AllByRecursion (λ r. IsBelow h r.corner) xs
