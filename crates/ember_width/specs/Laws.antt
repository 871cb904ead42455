-- The laws of both widths.
use Rattle.std.proofs.Common.{◌≡◌, refl, ◌+◌, ◌*◌, ◌^◌, ◌<◌, ◌≤◌, pos, ◌*ℤ◌, ◌<ℤ◌, lit<, lit≤, arith}
use borrow.Author.Differences.{ints}
use Rattle.ember_algebra.proofs.Size.{small_within, small_neg}
use Rattle.ember_model.specs.declared.plane.Plane.{Plane}
use Rattle.ember_model.specs.Planes.{opposite}
use Rattle.ember_model.specs.Valid.{IsValidPlane}
use Rattle.ember_model.specs.Limits.{narrow_limit, broad_limit, wall_limit}
use Rattle.ember_model.specs.Within.{IsPlaneWithin, normal_limit}
use Rattle.ember_width.specs.Broad.{IsBroadPlane}
use Rattle.ember_width.specs.BroadPoints.{spot_of}
use Rattle.ember_width.specs.declared.broad_point.BroadPoint.{BroadPoint}
use Rattle.ember_width.specs.declared.broad_point.BroadPoint.TheVariants.{Short, Floored, Far}

-- ---- planes
-- a plane within the narrow limit is valid
pub narrow_planes : (p : Plane) → IsPlaneWithin narrow_limit p → IsValidPlane p
narrow_planes p s =
    record {
      a = small_within (lit≤ tt) s.a;
      b = small_within (lit≤ tt) s.b;
      c = small_within (lit≤ tt) s.c;
      d = small_within (lit≤ tt) s.d;
    }

-- a plane within the broad limit is one of the broad grid
pub broad_planes : (p : Plane) → IsPlaneWithin broad_limit p → IsBroadPlane p
broad_planes p s =
    record {
      a = small_within (lit≤ tt) s.a;
      b = small_within (lit≤ tt) s.b;
      c = small_within (lit≤ tt) s.c;
      d = small_within (lit≤ tt) s.d;
    }

-- a valid plane with the opposite front is valid
pub narrow_opposite : (p : Plane) → IsValidPlane p → IsValidPlane (opposite p)
narrow_opposite p s = record { a = small_neg s.a; b = small_neg s.b; c = small_neg s.c; d = small_neg s.d }

-- a plane of the broad grid with the opposite front is one
pub broad_opposite : (p : Plane) → IsBroadPlane p → IsBroadPlane (opposite p)
broad_opposite p s = record { a = small_neg s.a; b = small_neg s.b; c = small_neg s.c; d = small_neg s.d }

-- valid planes are planes of the broad grid
pub narrow_is_broad : (p : Plane) → IsValidPlane p → IsBroadPlane p
narrow_is_broad p s =
    record {
      a = small_within (lit≤ tt) s.a;
      b = small_within (lit≤ tt) s.b;
      c = small_within (lit≤ tt) s.c;
      d = small_within (lit≤ tt) s.d;
    }

pub broad_is_broad : (p : Plane) → IsBroadPlane p → IsBroadPlane p
broad_is_broad p s = s

-- ---- corners
-- the narrow grid's corners are among those of the broad one
pub narrow_limit_is_broad : narrow_limit ≤ broad_limit
narrow_limit_is_broad = lit≤ tt

pub broad_limit_is_broad : broad_limit ≤ broad_limit
broad_limit_is_broad = lit≤ tt

-- ---- the shifts
-- normals of the narrow grid are below 2^27
pub narrow_normals : normal_limit narrow_limit < 2 ^ 27
narrow_normals = lit< tt

-- normals of the broad grid are below 2^43
pub broad_normals : normal_limit broad_limit < 2 ^ 43
broad_normals = lit< tt

-- ---- the unit of the boxes
-- on the narrow grid it is a step
pub narrow_unit : pos 1 ≡ pos (2 ^ 0)
narrow_unit = refl

pub narrow_steps : 0 ≤ 8
narrow_steps = lit≤ tt

-- on the broad grid it has 256 steps
pub broad_unit : pos 256 ≡ pos (2 ^ 8)
broad_unit = refl

pub broad_steps : 8 ≤ 8
broad_steps = lit≤ tt

-- ---- the root
-- the root holds the narrow grid
pub narrow_root : pos narrow_limit <ℤ (pos 2048 *ℤ pos 1)
narrow_root = omega (arith, ints)

-- the root holds the broad grid
pub broad_root : pos broad_limit <ℤ (pos 2048 *ℤ pos 256)
broad_root = omega (arith, ints)

-- the root ends one step past the narrow grid
pub narrow_end : 2 ^ 0 * wall_limit ≤ narrow_limit + 1
narrow_end = lit≤ tt

-- the root ends one step past the broad grid
pub broad_end : 2 ^ 8 * wall_limit ≤ broad_limit + 1
broad_end = lit≤ tt

-- ---- points
-- each point has a positive weight
pub broad_weighs : (m : BroadPoint) → pos 0 <ℤ (spot_of m).w
broad_weighs (Short m) = m.valid.weight
broad_weighs (Floored m) = m.valid.weight
broad_weighs (Far m) = m.valid.weight
