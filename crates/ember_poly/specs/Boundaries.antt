-- The sides of a ring as its three lists hold them
use Rattle.std.specs.Prelude.{◌≡◌, ℕ, ◌+◌, ◌≤◌, List, [], ◌∷◌, ◌++◌, length, take, drop, ⊤}
use Rattle.std.specs.List.{AllByRecursion}
use Rattle.ember_model.specs.declared.point.Spot.{Spot}
use Rattle.ember_model.specs.declared.plane.Plane.{Plane}
use Rattle.ember_model.specs.declared.tri.Tri.{Tri}
use Rattle.ember_model.specs.Owners.{spot_of_corner}
use Rattle.ember_poly.specs.declared.boundary.Boundary.{Boundary}
use Rattle.ember_poly.specs.declared.passage.Passage.{Passage}
use Rattle.ember_poly.specs.Rings.{Side, with_start, closing_side}
use Rattle.ember_poly.specs.Sides.{sides_of}

-- the corners of a triangle as points
abbrev pub tri_corners : Tri → List Spot
tri_corners t = spot_of_corner t.a ∷ spot_of_corner t.b ∷ spot_of_corner t.c ∷ []

-- the sides of a ring, from its three lists
abbrev pub sides : {W M : Type 0} → (M → Spot) → Boundary W M → List Side
sides spot r = sides_of spot r.edges.items r.corners.items r.plane_indices.items

-- the three lists are equally long
pub record HasEqualLengths {W M : Type 0} (r : Boundary W M) : Type 0 where
  pub corners : length r.corners.items ≡ length r.edges.items
  pub plane_indices : length r.plane_indices.items ≡ length r.edges.items

-- the first edge starts at v
abbrev pub with_first_start : Spot → List Side → List Side
with_first_start v [] = []
with_first_start v (s ∷ xs) = with_start s v ∷ xs

-- the first number is the least
abbrev pub LeastFirst : List ℕ → Type 0
LeastFirst [] = ⊤
LeastFirst (b ∷ bs) = AllByRecursion (λ c. b ≤ c) bs

-- a closed list, rotated
abbrev pub rotated : {X : Type 0} → ℕ → List X → List X
rotated k xs = drop k xs ++ take k xs

-- a list with an item in place of those with the indices from to to - 1
abbrev pub replace_between : {X : Type 0} → ℕ → ℕ → X → List X → List X
replace_between from to x xs = take from xs ++ x ∷ drop to xs

-- the edge with this index starts at v
abbrev pub with_start_at : ℕ → Spot → List Side → List Side
with_start_at k v xs = take k xs ++ with_first_start v (drop k xs)

-- the sides below the plane, from the entry to the exit, and then the closing side
abbrev pub part_sides : {W M : Type 0} → (M → Spot) → List Side → Passage W M → Plane → ℕ → List Side
part_sides spot xs at p plane_index =
    with_first_start (spot at.entry) (take (at.below_count + 1) (rotated at.entry_edge xs)) ++
    closing_side p (spot at.exit) plane_index ∷ []

-- these sides, rotated
pub record IsPartOfBoundary {W M : Type 0} (spot : M → Spot) (old : Boundary W M) (at : Passage W M) (p : Plane)
    (plane_index : ℕ) (new : Boundary W M) : Type 0 where
  pub index : ℕ
  pub order : sides spot new ≡ rotated index (part_sides spot (sides spot old) at p plane_index)
  pub paired : HasEqualLengths new

-- the same sides, rotated
pub record IsRotated {W M : Type 0} (spot : M → Spot) (old new : Boundary W M) : Type 0 where
  pub index : ℕ
  pub order : sides spot new ≡ rotated index (sides spot old)
