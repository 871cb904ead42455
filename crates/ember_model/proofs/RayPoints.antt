-- The place that code computes for a hit.
use Rattle.std.proofs.Common.{◌≡◌, ◌∙◌, ap, ℤ, ◌*ℤ◌, neg_ℤ}
use Rattle.ember_algebra.specs.Sign.{sign}
use Rattle.ember_model.specs.declared.plane.Plane.{Plane}
use Rattle.ember_model.specs.declared.point.Spot.{Spot}
use Rattle.ember_model.specs.declared.point.Axis.{Axis}
use Rattle.ember_model.specs.declared.values.RayPoint.{RayPoint}
use Rattle.ember_model.specs.Planes.{value_at, along}
use Rattle.ember_model.specs.Points.{scaled, moved}
use Rattle.ember_model.specs.Faces.{size, hit}
use Rattle.ember_model.specs.Rays.{point_on_ray}

-- the code's point on a ray is the ray's hit with the plane
pub ray_point_is_hit : (n : Plane) (a : Axis) (p : Spot) (front slope : ℤ) (r : RayPoint) → front ≡ value_at n p →
    slope ≡ along n a → r ≡ record { axis = a; factor = size slope; offset = neg_ℤ (sign slope *ℤ front) } →
    point_on_ray p r ≡ hit n a p
ray_point_is_hit n a p front slope r f s e =
    ap (point_on_ray p) e ∙ (λ i. moved (scaled (size (s i)) p) a (neg_ℤ (sign (s i) *ℤ f i)))
