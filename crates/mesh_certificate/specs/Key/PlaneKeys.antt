-- Keys of oriented planes
use Rattle.std.specs.Prelude.{◌≡◌, ◌≢◌, ℤ, pos, ◌<ℤ◌, List, [], ◌∷◌}
use Rattle.ember_algebra.specs.Sign.{sgn}
use Rattle.ember_algebra.specs.Vector.{zero_v}
use Rattle.ember_model.specs.declared.plane.Plane.{Plane}
use Rattle.ember_model.specs.declared.point.Spot.{Spot}
use Rattle.ember_model.specs.Edges.{normal}
use Rattle.ember_model.specs.Planes.{value_at, times_plane, zero_plane}
use Rattle.mesh_certificate.specs.Key.Divisors.{AreLowest}

abbrev pub coefficients : Plane → List ℤ
coefficients p = p.a ∷ p.b ∷ p.c ∷ p.d ∷ []

-- a positive multiple of p is a positive multiple of q
pub record IsSameOriented (p q : Plane) : Type 0 where
  pub of_p : ℤ
  pub of_q : ℤ
  pub positive_p : pos 0 <ℤ of_p
  pub positive_q : pos 0 <ℤ of_q
  pub same : times_plane of_p p ≡ times_plane of_q q

-- k is the same oriented plane as p, in lowest terms
pub record IsPlaneKey (p k : Plane) : Type 0 where
  pub same : IsSameOriented p k
  pub lowest : p ≢ zero_plane → AreLowest (coefficients k)

-- each point is in front of both, on both, or behind both
abbrev pub HaveSameSides : Plane → Plane → Type 0
HaveSameSides p q = (v : Spot) → pos 0 <ℤ v.w → sgn (value_at p v) ≡ sgn (value_at q v)

-- the plane's normal isn't zero
abbrev pub HasNormal : Plane → Type 0
HasNormal p = normal p ≢ zero_v
