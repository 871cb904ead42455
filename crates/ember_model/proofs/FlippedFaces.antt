-- A flipped face, and the hit with the opposite plane.
use Rattle.std.proofs.Common.{◌≡◌, refl, ap, ◌∙◌, cond, ◌&&◌, ℤ, pos, ◌*ℤ◌, neg_ℤ, not}
use Rattle.std.specs.List.{list_all}
use Rattle.ember_algebra.specs.Sign.{sign, is_negative, is_zero, is_positive}
use Rattle.ember_algebra.proofs.Numbers.{unsigned_abs-neg, neg-neg}
use Rattle.ember_algebra.proofs.Order.{sign-neg}
use Rattle.ember_model.specs.declared.plane.Plane.{Plane}
use Rattle.ember_model.specs.declared.point.Spot.{Spot}
use Rattle.ember_model.specs.declared.point.Axis.{Axis}
use Rattle.ember_model.specs.declared.point.Axis.TheVariants.{X, Y, Z}
use Rattle.ember_model.specs.declared.face.Face.{Face}
use Rattle.ember_model.specs.Planes.{value_at, along, opposite}
use Rattle.ember_model.specs.Points.{scaled, moved}
use Rattle.ember_model.specs.Faces.{size, is_inside, hit, crossing, flipped_face, is_in_closed}
use Rattle.ember_model.proofs.SignTests.{is_zero-neg}
use Rattle.ember_model.proofs.PlaneValues.{value-opposite}
use Rattle.ember_model.proofs.ScaledPoints.{neg_cond}

-- the entry of the opposite plane's normal along an axis
pub along-opposite : (a : Axis) (n : Plane) → along (opposite n) a ≡ neg_ℤ (along n a)
along-opposite X n = refl
along-opposite Y n = refl
along-opposite Z n = refl

-- a ray hits the opposite plane where it hits the plane
pub hit-opposite : (n : Plane) (a : Axis) (v : Spot) → hit (opposite n) a v ≡ hit n a v
hit-opposite n a v =
    let e = along-opposite a n in let d = value-opposite n v in
    let m : size (along (opposite n) a) ≡ size (along n a) = ap size e ∙ ap pos (unsigned_abs-neg (along n a)) in
    let w : sign (along (opposite n) a) *ℤ value_at (opposite n) v ≡ sign (along n a) *ℤ value_at n v =
    (λ i. sign (e i) *ℤ d i) ∙ ap (λ (z : ℤ). z *ℤ neg_ℤ (value_at n v)) (sign-neg (along n a))
    ∙ neg-neg (sign (along n a)) (value_at n v) in
    λ i. moved (scaled (m i) v) a (neg_ℤ (w i))

-- whether a ray leads to a plane doesn't depend on the plane's front
pub ahead-opposite : (n : Plane) (a : Axis) (v : Spot) → value_at (opposite n) v *ℤ along (opposite n) a ≡ value_at n v *ℤ along n a
ahead-opposite n a v =
    let e = along-opposite a n in let d = value-opposite n v in (λ i. d i *ℤ e i) ∙ neg-neg (value_at n v) (along n a)

-- a flipped face has the same inside points
pub inside-flipped : (f : Face) (v : Spot) → is_inside (flipped_face f) v ≡ is_inside f v
inside-flipped f v =
    ap (λ b. is_positive v.w && (b && list_all (λ e. is_negative (value_at e v)) f.edges))
    (ap is_zero (value-opposite f.support v) ∙ is_zero-neg (value_at f.support v))

-- and the same closed face
pub closed-flipped : (f : Face) (v : Spot) → is_in_closed (flipped_face f) v ≡ is_in_closed f v
closed-flipped f v =
    ap (λ b. is_positive v.w && (b && list_all (λ e. not (is_positive (value_at e v))) f.edges))
    (ap is_zero (value-opposite f.support v) ∙ is_zero-neg (value_at f.support v))

-- a ray crosses a flipped face the other way
pub crossing-flipped : (f : Face) (a : Axis) (p : Spot) → crossing (flipped_face f) a p ≡ neg_ℤ (crossing f a p)
unfolding crossing
crossing-flipped f a p =
    let n = f.support in let e = ap is_negative (ahead-opposite n a p) in
    let d = ap (is_inside (flipped_face f)) (hit-opposite n a p) ∙ inside-flipped f (hit n a p) in
    let s = ap sign (along-opposite a n) ∙ sign-neg (along n a) in
    (λ i. cond (e i && d i) (s i) (pos 0)) ∙ neg_cond (is_negative (value_at n p *ℤ along n a) && is_inside f (hit n a p)) (sign (along n a))
