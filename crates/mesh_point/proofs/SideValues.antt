-- The values of a plane at the points of a unit cube.
use Rattle.std.proofs.Common.{◌≡◌, ℕ, ◌+◌, ◌*◌, ◌<◌, ◌≤◌, ℤ, pos, neg_ℤ, ◌+ℤ◌, ◌-ℤ◌, ◌*ℤ◌, ◌<ℤ◌, ◌≤ℤ◌}
use Rattle.std.proofs.Common.{unsigned_abs, mul-le-mul, subst, SFits, to_z, of_z, to_z-of_z, arith}
use mir.Syntax.{w32, w128}
use Rattle.std.proofs.lemmas.Int.{unsigned_abs-mul}
use borrow.Author.Differences.{ints}
use Rattle.ember_algebra.specs.Size.{Small}
use Rattle.ember_algebra.proofs.Exact.{kept, ◌&◌, done, exact}
use Rattle.ember_algebra.proofs.Size.{small_of_fits}
use Rattle.ember_algebra.proofs.Ring.{◌⊕◌, ◌⊖◌, ◌⊗◌, neg, ◌≈◌, solve, cancels}
use Rattle.ember_model.specs.declared.plane.Plane.{Plane}
use Rattle.ember_model.specs.Planes.{value_at}
use Rattle.ember_width.specs.Broad.{IsBroadPlane, IsRemainder, most_normal}
use Rattle.mesh_point.specs.declared.space_point.SpacePoint.{SpacePoint}
use Rattle.mesh_point.specs.FloorTurns.{most_floor}
use Rattle.mesh_point.specs.Sides.{floor_value, rest_value, most_change}
use Rattle.mesh_point.specs.SpacePoints.{spot_of}
use Rattle.mesh_point.proofs.ClearTurns.{multiple_above}

-- the value at a point, by that at the least corner of its unit cube
pub value_by_floor : (h : Plane) (p : SpacePoint) → value_at h (spot_of p) ≡ floor_value h p *ℤ p.w +ℤ rest_value h p
value_by_floor h p =
    solve 11 (λ a b c d i j k x y z w. a ⊗ (i ⊗ w ⊕ x) ⊕ b ⊗ (j ⊗ w ⊕ y) ⊕ c ⊗ (k ⊗ w ⊕ z) ⊖ d ⊗ w ≈
    (a ⊗ i ⊕ b ⊗ j ⊕ c ⊗ k ⊖ d) ⊗ w ⊕ (a ⊗ x ⊕ b ⊗ y ⊕ c ⊗ z)) cancels h.a h.b h.c h.d p.floor_x p.floor_y p.floor_z p.x p.y p.z p.w

-- the size of an entry times a remainder
entry_size : {n : ℕ} (a r w : ℤ) → Small n a → IsRemainder r w → unsigned_abs (a *ℤ r) ≤ n * unsigned_abs w
entry_size {n} a r w s h =
    let l : unsigned_abs r ≤ unsigned_abs w = omega (arith, ints, h.at_least, h.below) in
    omega (arith, unsigned_abs-mul a r, mul-le-mul s.small l)

-- the remainders change the value by at most three entries of the normal
pub rest_size : (h : Plane) (p : SpacePoint) → IsBroadPlane h → unsigned_abs (rest_value h p) ≤ most_change * unsigned_abs p.w
rest_size h p s =
    omega (
      arith,
      ints,
      entry_size h.a p.x p.w s.a p.valid.x,
      entry_size h.b p.y p.w s.b p.valid.y,
      entry_size h.c p.z p.w s.c p.valid.z,
    )

-- a value above that is above 0 in the whole cube
pub far_in_front : (v w r : ℤ) (m : ℕ) → pos 0 <ℤ w → unsigned_abs r ≤ m * unsigned_abs w → pos m <ℤ v → pos 0 <ℤ (v *ℤ w +ℤ r)
far_in_front v w r m pw l h =
    let e : pos (unsigned_abs w) ≡ w = omega (arith, ints, pw) in
    subst (λ (k : ℤ). pos 0 <ℤ (v *ℤ k +ℤ r)) e (by (unsigned_abs w) (omega (arith, ints, pw)) l)
  where
    by : (n : ℕ) → 0 < n → unsigned_abs r ≤ m * n → pos 0 <ℤ (v *ℤ pos n +ℤ r)
    by n pn k =
        let least = multiple_above v m n h in let e = solve 2 (λ v n. v ⊗ n ≈ n ⊗ v) cancels v (pos n) in
        omega (arith, ints, least, e, k, pn)

-- and one below its negative below 0
pub far_behind : (v w r : ℤ) (m : ℕ) → pos 0 <ℤ w → unsigned_abs r ≤ m * unsigned_abs w → v <ℤ neg_ℤ (pos m) → (v *ℤ w +ℤ r) <ℤ pos 0
far_behind v w r m pw l h =
    let s : unsigned_abs (neg_ℤ r) ≤ m * unsigned_abs w = omega (arith, ints, l) in
    let k : pos m <ℤ neg_ℤ v = omega (arith, ints, h) in
    let f = far_in_front (neg_ℤ v) w (neg_ℤ r) m pw s k in
    let e = solve 3 (λ v w r. neg v ⊗ w ⊕ neg r ≈ neg (v ⊗ w ⊕ r)) cancels v w r in
    omega (arith, ints, f, e)

-- ---- as code adds it up
pub added_up : (p x y z : ℤ) → p +ℤ x +ℤ y +ℤ z ≡ p +ℤ (x +ℤ y +ℤ z)
added_up = solve 4 (λ p x y z. p ⊕ x ⊕ y ⊕ z ≈ p ⊕ (x ⊕ y ⊕ z)) cancels

-- ---- floors as code reads them
-- a floor is at most 2^31 in size
pub floor_small : {z : ℤ} → SFits w32 z → Small most_floor z
floor_small f = small_of_fits w32 f

-- and stays the same when it is cast
pub floor_read : {z : ℤ} → SFits w32 z → to_z w128 (of_z w128 (to_z w32 (of_z w32 z))) ≡ z
floor_read f = rw (to_z-of_z f) (exact (small_of_fits w32 f & done) (kept 0) tt)
