-- Keys of lines: Pluecker coordinates in lowest terms
use Rattle.std.specs.Prelude.{◌≡◌, ◌≢◌, ◌↔◌, ℕ, ◌*◌, ℤ, pos, ◌<ℤ◌, List, [], ◌∷◌}
use Rattle.ember_algebra.specs.Large.{first_sign}
use Rattle.ember_algebra.specs.Size.{Small}
use Rattle.ember_algebra.specs.Vector.{Vector, minus_v, scale_v, cross}
use Rattle.ember_model.specs.declared.plane.Plane.{Plane}
use Rattle.ember_model.specs.declared.point.Spot.{Spot}
use Rattle.ember_model.specs.Edges.{normal}
use Rattle.ember_model.specs.Planes.{value_at}
use Rattle.ember_width.specs.Broad.{most_normal, most_constant, most_cross}
use Rattle.mesh_certificate.specs.declared.key.lines.LineKey.{LineKey}
use Rattle.mesh_certificate.specs.Key.Divisors.{AreLowest}

abbrev pub direction : LineKey → Vector
direction k = record { x = k.dx; y = k.dy; z = k.dz }

abbrev pub moment : LineKey → Vector
moment k = record { x = k.mx; y = k.my; z = k.mz }

abbrev pub coordinates : LineKey → List ℤ
coordinates k = k.dx ∷ k.dy ∷ k.dz ∷ k.mx ∷ k.my ∷ k.mz ∷ []

-- the numerators of a point
abbrev pub numerators : Spot → Vector
numerators v = record { x = v.x; y = v.y; z = v.z }

-- the moment of the point v about the origin, along the line's direction, is the line's
abbrev pub IsOnLine : LineKey → Spot → Type 0
IsOnLine k v = cross (numerators v) (direction k) ≡ scale_v v.w (moment k)

-- the point lies on both planes
abbrev pub IsOnBoth : Plane → Plane → Spot → Type 0
IsOnBoth p q v = (value_at p v ≡ pos 0) × (value_at q v ≡ pos 0)

-- ---- the line in which two planes meet
-- the direction of the line in which two planes meet, not in lowest terms
abbrev pub direction_of : Plane → Plane → Vector
direction_of p q = cross (normal p) (normal q)

-- the moment of the line in which two planes meet, not in lowest terms
abbrev pub moment_of : Plane → Plane → Vector
moment_of p q = minus_v (scale_v q.d (normal p)) (scale_v p.d (normal q))

-- k has the coordinates of this line up to a factor, in lowest terms, and the first entry of its
-- direction that isn't 0 is positive
pub record IsLineKey (p q : Plane) (k : LineKey) : Type 0 where
  pub factor : ℤ
  pub not_zero : factor ≢ pos 0
  pub same_direction : scale_v factor (direction k) ≡ direction_of p q
  pub same_moment : scale_v factor (moment k) ≡ moment_of p q
  pub lowest : AreLowest (coordinates k)
  pub forward : first_sign (k.dx ∷ k.dy ∷ k.dz ∷ []) ≡ pos 1

-- the points on p and q are those on r and s
abbrev pub HaveSameMeet : Plane → Plane → Plane → Plane → Type 0
HaveSameMeet p q r s = (v : Spot) → pos 0 <ℤ v.w → IsOnBoth p q v ↔ IsOnBoth r s v

-- ---- on the way to the key
-- k times the factor is l
pub record IsMultiple (factor : ℤ) (k l : LineKey) : Type 0 where
  pub directions : scale_v factor (direction k) ≡ direction l
  pub moments : scale_v factor (moment k) ≡ moment l

-- the greatest size of an entry of a moment: two products of a constant and an entry of a normal
abbrev pub most_moment : ℕ
most_moment = 2 * (most_constant * most_normal)

-- the direction is that of two planes of the broad grid in size, below 2^81, and the moment below 2^103
pub record IsLineSized (k : LineKey) : Type 0 where
  pub dx : Small most_cross k.dx
  pub dy : Small most_cross k.dy
  pub dz : Small most_cross k.dz
  pub mx : Small most_moment k.mx
  pub my : Small most_moment k.my
  pub mz : Small most_moment k.mz
