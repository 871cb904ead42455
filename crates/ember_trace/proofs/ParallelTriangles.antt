-- A triangle whose plane is parallel to an axis has nothing but empty edge planes along it, behind which nothing lies.
use Rattle.std.proofs.Common.{◌≡◌, refl, sym, ap, ◌∙◌, arith, true, false, ◌&&◌, ℤ, pos, ◌-ℤ◌, ◌*ℤ◌}
use Rattle.ember_algebra.specs.declared.Sign.{Sign}
use Rattle.ember_algebra.specs.declared.Sign.TheVariants.{Zero}
use Rattle.ember_algebra.specs.Sign.{sign, sgn, is_neg, is_nil}
use Rattle.ember_algebra.proofs.Laws.{linear}
use Rattle.ember_model.specs.declared.point.Spot.{Spot}
use Rattle.ember_model.specs.declared.point.Axis.{Axis}
use Rattle.ember_model.specs.declared.point.Axis.TheVariants.{X, Y, Z}
use Rattle.ember_model.specs.declared.plane.Plane.{Plane}
use Rattle.ember_model.specs.Planes.{value_at, along, support_of, edge_planes, edge_through, times_plane, unit}
use Rattle.ember_model.proofs.SignTests.{zero_out, zero_times}
use Rattle.ember_point.specs.Points.{slid}
use Rattle.ember_width.specs.declared.width.Width.{Ghosts}
use Rattle.ember_ref.specs.References.{or_sign, reference_of_list}
use Rattle.ember_trace.specs.declared.near_triangle.NearTriangle.{NearTriangle}
use Rattle.ember_trace.specs.Paths.{Path, coordinate, side_at_start, side_at_end, side_after_first, slid_to_lo}
use Rattle.ember_trace.specs.Lines.{all_behind}

record IsEmpty (p : Plane) : Type 0 where
  a : p.a ≡ pos 0
  b : p.b ≡ pos 0
  c : p.c ≡ pos 0
  d : p.d ≡ pos 0

empty_value : (p : Plane) (v : Spot) → IsEmpty p → sgn (value_at p v) ≡ Zero
empty_value p v e = ap sgn value
  where
    value : value_at p v ≡ pos 0
    value =
        let x = zero_times p.a v.x e.a in let y = zero_times p.b v.y e.b in let z = zero_times p.c v.z e.c in let w = zero_times p.d v.w e.d in
        omega (arith, linear, x, y, z, w)

empty_times : (s : ℤ) (p : Plane) → s ≡ pos 0 → IsEmpty (times_plane s p)
empty_times s p e = record { a = zero_times s p.a e; b = zero_times s p.b e; c = zero_times s p.c e; d = zero_times s p.d e }

empty_slid : (p : Plane) (k : Axis) (at : ℤ) → IsEmpty p → IsEmpty (slid p k at)
empty_slid p X at e = record { a = refl; b = e.b; c = e.c; d = moved p.d p.a at e.d e.a }
  where
    moved : (d n at : ℤ) → d ≡ pos 0 → n ≡ pos 0 → d -ℤ n *ℤ at ≡ pos 0
    moved d n at x y = let z = zero_times n at y in omega (arith, linear, x, z)
empty_slid p Y at e = record { a = e.a; b = refl; c = e.c; d = moved p.d p.b at e.d e.b }
  where
    moved : (d n at : ℤ) → d ≡ pos 0 → n ≡ pos 0 → d -ℤ n *ℤ at ≡ pos 0
    moved d n at x y = let z = zero_times n at y in omega (arith, linear, x, z)
empty_slid p Z at e = record { a = e.a; b = e.b; c = refl; d = moved p.d p.c at e.d e.c }
  where
    moved : (d n at : ℤ) → d ≡ pos 0 → n ≡ pos 0 → d -ℤ n *ℤ at ≡ pos 0
    moved d n at x y = let z = zero_times n at y in omega (arith, linear, x, z)

empty_at_end : (w : Path) (p : Plane) → IsEmpty p → side_at_end w p ≡ Zero
empty_at_end w p e =
    let x = empty_value p w.first_corner e in let y = empty_value p w.second_corner e in let z = empty_value p w.third_corner e in
    λ i. or_sign (x i) (or_sign (y i) (z i))

empty_at_start : (w : Path) (p : Plane) → IsEmpty p → side_at_start w p ≡ Zero
empty_at_start w p e = empty_value p (reference_of_list w.fine w.lo) e

empty_after_first : (w : Path) (p : Plane) → IsEmpty p → side_after_first w p ≡ Zero
empty_after_first w p e =
    let q = empty_slid p w.second_axis (coordinate w.lo w.second_axis) e in
    let x = empty_at_end w (slid_to_lo w w.main (slid_to_lo w w.second_axis p)) (empty_slid (slid_to_lo w w.second_axis p) w.main (coordinate w.lo w.main) q) in
    let y = empty_at_start w p e in λ i. or_sign (x i) (y i)

-- the first edge plane is empty
parallel : {W M : Type 0} {G : Ghosts W M} (side : Plane → Sign) (f : NearTriangle W M G) (k : Axis) → ((p : Plane) → IsEmpty p → side p ≡ Zero) →
    is_nil (sgn (along f.support k)) ≡ true → all_behind side (edge_planes f.tri k) ≡ false
parallel side f k z h =
    let t = f.tri in let s = sign (along (support_of t) k) in
    let n : s ≡ pos 0 = ap sign (sym (ap (λ (p : Plane). along p k) f.plane) ∙ zero_out (along f.support k) h) in
    let e = z (times_plane s (edge_through t.a t.b (unit k))) (empty_times s (edge_through t.a t.b (unit k)) n) in
    λ i. is_neg (e i) && (is_neg (side (times_plane s (edge_through t.b t.c (unit k))))
    && (is_neg (side (times_plane s (edge_through t.c t.a (unit k)))) && true))

-- so no segment along the axis runs through the triangle
-- if the normal has no entry along the second axis, the second segment doesn't run through the triangle
pub parallel_second : {W M : Type 0} {G : Ghosts W M} (w : Path) (f : NearTriangle W M G) → is_nil (sgn (along f.support w.second_axis)) ≡ true →
    all_behind (λ p. side_after_first w p) (edge_planes f.tri w.second_axis) ≡ false
parallel_second w f h = parallel (λ p. side_after_first w p) f w.second_axis (empty_after_first w) h

-- if the normal has no entry along the main axis, the last segment doesn't run through the triangle
pub parallel_last : {W M : Type 0} {G : Ghosts W M} (w : Path) (f : NearTriangle W M G) → is_nil (sgn (along f.support w.main)) ≡ true →
    all_behind (λ p. side_at_end w p) (edge_planes f.tri w.main) ≡ false
parallel_last w f h = parallel (λ p. side_at_end w p) f w.main (empty_at_end w) h
