-- Planes and points as tuples, for identities.
use Rattle.std.proofs.Common.{◌≡◌, pos}
use Rattle.ember_algebra.specs.Vector.{Tuple}
use Rattle.ember_algebra.proofs.Vectors.{VectorE, TupleE}
use Rattle.ember_algebra.proofs.Ring.{num}
use Rattle.ember_model.specs.declared.plane.Plane.{Plane}
use Rattle.ember_model.specs.declared.point.Spot.{Spot}

-- the four numbers of a plane
abbrev pub plane_tuple : Plane → Tuple
plane_tuple p = record { x = p.a; y = p.b; z = p.c; w = p.d }

-- the four numbers of a point
abbrev pub spot_tuple : Spot → Tuple
spot_tuple v = record { x = v.x; y = v.y; z = v.z; w = v.w }

-- the normal of a plane, on expressions
abbrev pub normalE : TupleE → VectorE
normalE p = record { x = p.x; y = p.y; z = p.z }

-- ---- equal entries
-- planes with equal numbers are equal
pub same_plane : {p q : Plane} → p.a ≡ q.a → p.b ≡ q.b → p.c ≡ q.c → p.d ≡ q.d → p ≡ q
same_plane {p} {q} ea eb ec ed = λ i. record { a = ea i; b = eb i; c = ec i; d = ed i }

-- points with the same four numbers are equal
pub same_spot : {u v : Spot} → u.x ≡ v.x → u.y ≡ v.y → u.z ≡ v.z → u.w ≡ v.w → u ≡ v
same_spot {u} {v} ex ey ez ew = λ i. record { x = ex i; y = ey i; z = ez i; w = ew i }

-- a corner on expressions
abbrev pub cornerE : VectorE → TupleE
cornerE v = record { x = v.x; y = v.y; z = v.z; w = num (pos 1) }
