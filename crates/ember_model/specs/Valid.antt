-- Valid corners, triangles, planes, points and faces: the sizes under which 128 bits hold every number
use Rattle.std.specs.Prelude.{All, pos, ◌<ℤ◌}
use Rattle.ember_algebra.specs.Size.{Small}
use Rattle.ember_model.specs.declared.point.Corner.{Corner}
use Rattle.ember_model.specs.declared.point.Spot.{Spot}
use Rattle.ember_model.specs.declared.plane.Plane.{Plane}
use Rattle.ember_model.specs.declared.tri.Tri.{Tri}
use Rattle.ember_model.specs.declared.face.Face.{Face}
use Rattle.ember_model.specs.Limits.{narrow_limit, valid_normal_limit, valid_constant_limit}
use Rattle.ember_model.specs.Limits.{spot_limit, meet_limit, meet_weight_limit}
use Rattle.ember_model.specs.Within.{IsCornerWithin, IsTriWithin}

-- each coordinate is at most 2047 in size
abbrev pub IsValidCorner : Corner → Type 0
IsValidCorner c = IsCornerWithin narrow_limit c

-- all corners are valid
abbrev pub IsValidTri : Tri → Type 0
IsValidTri t = IsTriWithin narrow_limit t

-- the entries of the normal are below 2^25 in size, the constant below 2^39
pub record IsValidPlane (p : Plane) : Type 0 where
  pub a : Small valid_normal_limit p.a
  pub b : Small valid_normal_limit p.b
  pub c : Small valid_normal_limit p.c
  pub d : Small valid_constant_limit p.d

-- coordinates and weight are below 2^40 in size, the weight is at least 1
pub record IsValidSpot (s : Spot) : Type 0 where
  pub x : Small spot_limit s.x
  pub y : Small spot_limit s.y
  pub z : Small spot_limit s.z
  pub w : Small spot_limit s.w
  pub weight : pos 0 <ℤ s.w

-- all planes are valid
pub record IsValidFace (f : Face) : Type 0 where
  pub support : IsValidPlane f.support
  pub edges : All IsValidPlane f.edges

-- a meet of three valid planes: coordinates below 2^92 in size, a weight from 1 to below 2^78
pub record IsValidMeet (s : Spot) : Type 0 where
  pub x : Small meet_limit s.x
  pub y : Small meet_limit s.y
  pub z : Small meet_limit s.z
  pub w : Small meet_weight_limit s.w
  pub weight : pos 0 <ℤ s.w
