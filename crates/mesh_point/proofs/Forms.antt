-- A point has one form.
use Rattle.std.proofs.Common.{◌≡◌, ℤ, pos, ◌+ℤ◌, ◌*ℤ◌, ◌<ℤ◌, sym, ap, ◌∙◌, arith}
use Rattle.std.specs.Int.{int_div_euclid}
use Rattle.ember_algebra.proofs.Laws.{linear}
use Rattle.ember_model.specs.declared.point.Spot.{Spot}
use Rattle.ember_width.specs.Broad.{IsRemainder}
use Rattle.ember_width.proofs.FloorValues.{kept_place}
use Rattle.mesh_point.specs.declared.space_point.SpacePoint.{SpacePoint}
use Rattle.mesh_point.specs.SpacePoints.{spot_of}

-- equal numbers over one weight have one floor and one remainder
pub coordinates_are_one : (i j r s v w : ℤ) → pos 0 <ℤ v → pos 0 <ℤ w → IsRemainder r v → IsRemainder s w → v ≡ w →
    i *ℤ v +ℤ r ≡ j *ℤ w +ℤ s → (i ≡ j) × (r ≡ s)
coordinates_are_one i j r s v w pv pw hr hs e f = (floors, rests (λ n. floors n *ℤ e n))
  where
    floors : i ≡ j
    floors = sym (kept_place i r v pv hr) ∙ (λ n. int_div_euclid (f n) (e n)) ∙ kept_place j s w pw hs

    rests : i *ℤ v ≡ j *ℤ w → r ≡ s
    rests g = omega (arith, linear, f, g)

-- points that are the same have the same numbers
pub record HaveSameNumbers (p q : SpacePoint) : Type 0 where
  pub floor_x : p.floor_x ≡ q.floor_x
  pub floor_y : p.floor_y ≡ q.floor_y
  pub floor_z : p.floor_z ≡ q.floor_z
  pub x : p.x ≡ q.x
  pub y : p.y ≡ q.y
  pub z : p.z ≡ q.z
  pub w : p.w ≡ q.w

pub points_have_one_form : (p q : SpacePoint) → spot_of p ≡ spot_of q → HaveSameNumbers p q
points_have_one_form p q e =
    let w : p.w ≡ q.w = ap (λ (s : Spot). s.w) e in let a = p.valid in let b = q.valid in
    let x = coordinates_are_one p.floor_x q.floor_x p.x q.x p.w q.w a.positive b.positive a.x b.x w (ap (λ (s : Spot). s.x) e) in
    let y = coordinates_are_one p.floor_y q.floor_y p.y q.y p.w q.w a.positive b.positive a.y b.y w (ap (λ (s : Spot). s.y) e) in
    let z = coordinates_are_one p.floor_z q.floor_z p.z q.z p.w q.w a.positive b.positive a.z b.z w (ap (λ (s : Spot). s.z) e) in
    record { floor_x = x.0; floor_y = y.0; floor_z = z.0; x = x.1; y = y.1; z = z.1; w = w }
