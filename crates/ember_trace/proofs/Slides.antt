-- A plane of a triangle stays a valid plane when one coordinate, and then another, is fixed.
use Rattle.std.proofs.Common.{ℕ, ◌+◌, ◌*◌, ℤ, ◌*ℤ◌, ◌-ℤ◌, pos, arith}
use Rattle.ember_algebra.specs.Size.{Small}
use Rattle.ember_algebra.proofs.Size.{small_within, small_mul, small_sub}
use Rattle.ember_model.specs.declared.plane.Plane.{Plane}
use Rattle.ember_model.specs.declared.point.Axis.{Axis}
use Rattle.ember_model.specs.declared.point.Axis.TheVariants.{X, Y, Z}
use Rattle.ember_model.specs.Valid.{IsValidPlane}
use Rattle.ember_model.specs.Sizes.{IsSupportSized}
use Rattle.ember_point.specs.Points.{slid}

-- the constant of a plane of a triangle, once or twice moved by an entry of the normal times 2048
record IsMoved (p : Plane) : Type 0 where
  a : Small 33554431 p.a
  b : Small 33554431 p.b
  c : Small 33554431 p.c
  d : Small 274877905920 p.d

none : Small 33554431 (pos 0)
none = record { small = omega arith }

moved_once : {m : ℕ} (d n at : ℤ) → Small m d → Small 33554431 n → Small 2048 at → Small (m + 33554431 * 2048) (d -ℤ n *ℤ at)
moved_once d n at sd sn sa = small_sub sd (small_mul sn sa)

once : (p : Plane) (k : Axis) (at : ℤ) → IsSupportSized p → Small 2048 at → IsMoved (slid p k at)
once p X at s t =
    record { a = none; b = s.b; c = s.c; d = small_within (omega arith) (moved_once p.d p.a at s.d s.a t) }
once p Y at s t =
    record { a = s.a; b = none; c = s.c; d = small_within (omega arith) (moved_once p.d p.b at s.d s.b t) }
once p Z at s t =
    record { a = s.a; b = s.b; c = none; d = small_within (omega arith) (moved_once p.d p.c at s.d s.c t) }

valid : (p : Plane) → IsMoved p → IsValidPlane p
valid p s = record { a = s.a; b = s.b; c = s.c; d = small_within (omega arith) s.d }

-- a support plane that is slid once is valid
pub slid_once : (p : Plane) (k : Axis) (at : ℤ) → IsSupportSized p → Small 2048 at → IsValidPlane (slid p k at)
slid_once p k at s t = valid (slid p k at) (once p k at s t)

-- the constant of a support plane with one coordinate fixed is below 2^38 in size
pub slid_constant : (p : Plane) (k : Axis) (at : ℤ) → IsSupportSized p → Small 2048 at → Small 274877906943 (slid p k at).d
slid_constant p k at s t = small_within (omega arith) (once p k at s t).d

twice : (p : Plane) (k : Axis) (at : ℤ) → IsMoved p → Small 2048 at → IsValidPlane (slid p k at)
twice p X at s t =
    record { a = none; b = s.b; c = s.c; d = small_within (omega arith) (moved_once p.d p.a at s.d s.a t) }
twice p Y at s t =
    record { a = s.a; b = none; c = s.c; d = small_within (omega arith) (moved_once p.d p.b at s.d s.b t) }
twice p Z at s t =
    record { a = s.a; b = s.b; c = none; d = small_within (omega arith) (moved_once p.d p.c at s.d s.c t) }

-- a support plane that is slid twice is valid
pub slid_twice : (p : Plane) (j k : Axis) (at by : ℤ) → IsSupportSized p → Small 2048 at → Small 2048 by → IsValidPlane (slid (slid p j at) k by)
slid_twice p j k at by s t u = twice (slid p j at) k by (once p j at s t) u
