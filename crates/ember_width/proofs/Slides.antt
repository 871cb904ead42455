-- How large planes with fixed coordinates are.
use Rattle.std.proofs.Common.{ℕ, zero, suc, ◌+◌, ◌*◌, ◌≤◌, ℤ, arith}
use Rattle.ember_algebra.specs.Size.{Small}
use Rattle.ember_algebra.proofs.Size.{small_within, small_mul, small_sub}
use Rattle.ember_algebra.proofs.Exact.{small_zero}
use Rattle.ember_model.specs.declared.plane.Plane.{Plane}
use Rattle.ember_model.specs.declared.point.Axis.{Axis}
use Rattle.ember_model.specs.declared.point.Axis.TheVariants.{X, Y, Z}
use Rattle.ember_model.specs.Within.{IsSupportWithin, IsEdgeWithin, IsPlaneWithin, normal_limit}
use Rattle.ember_point.specs.Points.{slid}

-- a plane with normals up to n and a constant up to d
record IsSized (n most : ℕ) (p : Plane) : Type 0 where
  a : Small n p.a
  b : Small n p.b
  c : Small n p.c
  d : Small most p.d

-- a slide keeps the normal's sizes, and adds an entry times the place to the constant's
slid_sized : {n d h : ℕ} {p : Plane} {s : ℤ} (k : Axis) → IsSized n d p → Small h s → IsSized n (d + n * h) (slid p k s)
slid_sized {n} X q t = record { a = small_zero n; b = q.b; c = q.c; d = small_sub q.d (small_mul q.a t) }
slid_sized {n} Y q t = record { a = q.a; b = small_zero n; c = q.c; d = small_sub q.d (small_mul q.b t) }
slid_sized {n} Z q t = record { a = q.a; b = q.b; c = small_zero n; d = small_sub q.d (small_mul q.c t) }

support_is_sized : {m : ℕ} {p : Plane} → IsSupportWithin m p → IsSized (normal_limit m) (12 * (m * (m * m))) p
support_is_sized s = record { a = s.a; b = s.b; c = s.c; d = s.d }

sized_within : {m d : ℕ} {p : Plane} → d ≤ 20 * (m * (m * m)) + 8 * (m * m) → IsSized (normal_limit m) d p → IsPlaneWithin m p
sized_within l s = record { a = s.a; b = s.b; c = s.c; d = small_within l s.d }

none : (m : ℕ) → 12 * (m * (m * m)) ≤ 20 * (m * (m * m)) + 8 * (m * m)
none m = omega arith

once : (m : ℕ) → 12 * (m * (m * m)) + normal_limit m * (m + 1) ≤ 20 * (m * (m * m)) + 8 * (m * m)
once m = omega arith

twice : (m : ℕ) → 12 * (m * (m * m)) + normal_limit m * (m + 1) + normal_limit m * (m + 1) ≤ 20 * (m * (m * m)) + 8 * (m * m)
twice m = omega arith

-- a number is at most its square
own_square : (m : ℕ) → m ≤ m * m
own_square zero = omega arith
own_square (suc k) = omega arith

-- edge planes
pub edge_within_planes : (m : ℕ) (p : Plane) → IsEdgeWithin m p → IsPlaneWithin m p
edge_within_planes m p s =
    let l = own_square m in
    record {
      a = small_within (omega (arith, l)) s.a;
      b = small_within (omega (arith, l)) s.b;
      c = small_within (omega (arith, l)) s.c;
      d = small_within (omega arith) s.d;
    }

-- support planes
pub support_within_planes : (m : ℕ) (p : Plane) → IsSupportWithin m p → IsPlaneWithin m p
support_within_planes m p s = sized_within (none m) (support_is_sized s)

-- with one coordinate fixed
pub slid_within_planes : (m : ℕ) (p : Plane) (k : Axis) (s : ℤ) → IsSupportWithin m p → Small (m + 1) s → IsPlaneWithin m (slid p k s)
slid_within_planes m p k s q t = sized_within (once m) (slid_sized k (support_is_sized q) t)

-- with two
pub slid_twice_within_planes : (m : ℕ) (p : Plane) (j k : Axis) (s t : ℤ) → IsSupportWithin m p → Small (m + 1) s → Small (m + 1) t →
    IsPlaneWithin m (slid (slid p j s) k t)
slid_twice_within_planes m p j k s t q u v = sized_within (twice m) (slid_sized k (slid_sized j (support_is_sized q) u) v)
