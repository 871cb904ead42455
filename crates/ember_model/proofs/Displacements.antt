-- The vector from a point to another one, times both weights
use Rattle.std.proofs.Common.{◌≡◌, [], ◌∷◌, ◌-ℤ◌, ◌*ℤ◌}
use Rattle.ember_algebra.specs.Vector.{dot}
use Rattle.ember_algebra.proofs.Ring.{◌⊖◌, ◌⊗◌, ◌≈◌, cancels}
use Rattle.ember_algebra.proofs.Vectors.{tuple, identity, TupleE, VectorE, dotE, valueE}
use Rattle.ember_model.specs.declared.plane.Plane.{Plane}
use Rattle.ember_model.specs.declared.point.Spot.{Spot}
use Rattle.ember_model.specs.Planes.{value_at}
use Rattle.ember_model.specs.Points.{displacement}
use Rattle.ember_model.specs.Edges.{normal}
use Rattle.ember_model.proofs.Tuples.{plane_tuple, spot_tuple, normalE}

-- a displacement on expressions
abbrev pub displacementE : TupleE → TupleE → VectorE
displacementE u v =
    record { x = u.w ⊗ v.x ⊖ v.w ⊗ u.x; y = u.w ⊗ v.y ⊖ v.w ⊗ u.y; z = u.w ⊗ v.z ⊖ v.w ⊗ u.z }

-- how a plane's value changes over a displacement
pub displacement_value : (h : Plane) (u v : Spot) → u.w *ℤ value_at h v -ℤ v.w *ℤ value_at h u ≡ dot (normal h) (displacement u v)
displacement_value h u v =
    identity (tuple ∷ tuple ∷ tuple ∷ []) (λ h u v. u.w ⊗ valueE h v ⊖ v.w ⊗ valueE h u ≈ dotE (normalE h)
    (displacementE u v)) cancels (plane_tuple h) (spot_tuple u) (spot_tuple v)
