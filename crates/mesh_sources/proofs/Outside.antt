-- The outer side of an edge, by the turn of three points seen along an axis
use Rattle.std.proofs.Common.{◌≡◌, ◌↔◌, ◌∙◌, refl, sym, ap, arith, ℤ, pos, ◌*ℤ◌, ◌<ℤ◌, Bool, true, false, not, ◌&&◌}
use Rattle.std.specs.Prelude.{IsTrue}
use Rattle.std.proofs.lemmas.Int.{by_lt_z}
use Rattle.ember_algebra.specs.Vector.{dot}
use Rattle.ember_algebra.specs.Sign.{is_zero, is_positive}
use Rattle.ember_algebra.proofs.Laws.{linear}
use Rattle.ember_model.specs.declared.plane.Plane.{Plane}
use Rattle.ember_model.specs.declared.point.Spot.{Spot}
use Rattle.ember_model.specs.declared.point.Axis.{Axis}
use Rattle.ember_model.specs.Planes.{value_at, along, main_axis}
use Rattle.ember_model.specs.Edges.{normal}
use Rattle.mesh_certificate.specs.Certificate.Facing.{triangle_normal, turn_along}
use Rattle.mesh_certificate.proofs.SeenFromFront.{front_from_tests, left_from_front}
use Rattle.mesh_sources.specs.Places.{IsOutside}

all_zero : (u v w : ℤ) → u ≡ pos 0 → v ≡ pos 0 → w ≡ pos 0 → is_zero u && (is_zero v && is_zero w) ≡ true
all_zero u v w e f g = rw (e, f, g)

not_both : {P : Type 0} → false ≡ true → P
not_both e = cc

pub outside_decided : (p : Plane) (k : Axis) (a b x : Spot) (l : Bool) → k ≡ main_axis p → pos 0 <ℤ a.w →
    value_at p a ≡ pos 0 → value_at p b ≡ pos 0 → value_at p x ≡ pos 0 →
    l ≡ is_positive (along p k *ℤ turn_along k a b x) → IsTrue (not l) ↔ IsOutside p a b x
outside_decided p k a b x l m w za zb zx e =
    by l (e ∙ ap (λ (j : Axis). is_positive (along p j *ℤ turn_along j a b x)) m)
  where
    by : (l : Bool) → l ≡ is_positive (along p (main_axis p) *ℤ turn_along (main_axis p) a b x) → IsTrue (not l) ↔ IsOutside p a b x
    by true e = (
      λ t. not_both t,
      λ o. let f = (front_from_tests p a b x w (all_zero _ _ _ za zb zx) (sym e)).front in absurd (omega (arith, linear, f, o)),
    )
    by false e = (
      λ t. by_lt_z (pos 0) (dot (normal p) (triangle_normal a b x)) (λ f. not_both (e ∙ left_from_front p a b x w (record { first = za; second = zb; third = zx; front = f }))) (λ h. h),
      λ o. refl,
    )
