-- Corners and triangles within a limit m, and how large the planes of such a triangle are
use Rattle.std.specs.Prelude.{ℕ, ◌+◌, ◌*◌, All}
use Rattle.ember_algebra.specs.Size.{Small}
use Rattle.ember_model.specs.declared.point.Corner.{Corner}
use Rattle.ember_model.specs.declared.plane.Plane.{Plane}
use Rattle.ember_model.specs.declared.tri.Tri.{Tri}
use Rattle.ember_model.specs.declared.face.Face.{Face}

-- ---- corners and triangles
-- each coordinate is at most m in size
pub record IsCornerWithin (m : ℕ) (c : Corner) : Type 0 where
  pub x : Small m c.x
  pub y : Small m c.y
  pub z : Small m c.z

-- all corners are within m
pub record IsTriWithin (m : ℕ) (t : Tri) : Type 0 where
  pub a : IsCornerWithin m t.a
  pub b : IsCornerWithin m t.b
  pub c : IsCornerWithin m t.c

-- ---- planes
-- an entry of a triangle's normal: a sum of three coordinates, each times the difference of the two others along
-- another axis, and these three differences add up to at most 4m in size
abbrev pub normal_limit : ℕ → ℕ
normal_limit m = 4 * (m * m)

-- the support plane of a triangle within m: its constant is the dot product of the normal and a corner
pub record IsSupportWithin (m : ℕ) (p : Plane) : Type 0 where
  pub a : Small (normal_limit m) p.a
  pub b : Small (normal_limit m) p.b
  pub c : Small (normal_limit m) p.c
  pub d : Small (12 * (m * (m * m))) p.d

-- a support plane in which up to two coordinates have been fixed, each to a number of at most m + 1 in size
pub record IsPlaneWithin (m : ℕ) (p : Plane) : Type 0 where
  pub a : Small (normal_limit m) p.a
  pub b : Small (normal_limit m) p.b
  pub c : Small (normal_limit m) p.c
  pub d : Small (20 * (m * (m * m)) + 8 * (m * m)) p.d

-- an edge plane of a triangle within m
pub record IsEdgeWithin (m : ℕ) (p : Plane) : Type 0 where
  pub a : Small (2 * m) p.a
  pub b : Small (2 * m) p.b
  pub c : Small (2 * m) p.c
  pub d : Small (4 * (m * m)) p.d

-- the face of a triangle within m
pub record IsFaceWithin (m : ℕ) (f : Face) : Type 0 where
  pub support : IsSupportWithin m f.support
  pub edges : All (IsEdgeWithin m) f.edges
