-- The least and the greatest coordinates of corners
use Rattle.std.specs.Prelude.{List, [], ◌∷◌, flat_map, map, All, Contains, IsTrue, from_bits}
use Rattle.std.specs.Float.{Float, binary32, ◌≤ᶠ◌, float_is_finite}
use Rattle.mesh_write.specs.declared.stl.triangle.FloatPoint.{FloatPoint}
use Rattle.mesh_write.specs.declared.stl.triangle.FloatTriangle.{FloatTriangle}
use Rattle.mesh_write.specs.declared.glb.bounds.FloatCoordinates.{FloatCoordinates}
use Rattle.mesh_write.specs.declared.glb.bounds.Bounds.{Bounds}

-- the floats with the bits of a point
abbrev pub coordinates_of : FloatPoint → FloatCoordinates
coordinates_of p = record {
  x = from_bits binary32 p.x;
  y = from_bits binary32 p.y;
  z = from_bits binary32 p.z;
}

-- the corners of a triangle
abbrev pub three_corners : FloatTriangle → List FloatCoordinates
three_corners t = coordinates_of t.a ∷ coordinates_of t.b ∷ coordinates_of t.c ∷ []

-- the corners of triangles, in order
abbrev pub corners_of : List FloatTriangle → List FloatCoordinates
corners_of ts = flat_map three_corners ts

-- neither infinite nor NaN
pub record IsFinite (p : FloatCoordinates) : Type 0 where
  pub x : IsTrue (float_is_finite p.x)
  pub y : IsTrue (float_is_finite p.y)
  pub z : IsTrue (float_is_finite p.z)

-- one of the numbers, and none is less
pub record IsLeast (all : List Float) (least : Float) : Type 0 where
  pub one_of : Contains all least
  pub below : All (λ number. least ≤ᶠ number) all

-- one of the numbers, and none is greater
pub record IsGreatest (all : List Float) (greatest : Float) : Type 0 where
  pub one_of : Contains all greatest
  pub above : All (λ number. number ≤ᶠ greatest) all

-- the least and the greatest coordinate of the points along each axis
pub record AreBounds (points : List FloatCoordinates) (b : Bounds) : Type 0 where
  pub low_x : IsLeast (map (λ p. p.x) points) b.low.x
  pub low_y : IsLeast (map (λ p. p.y) points) b.low.y
  pub low_z : IsLeast (map (λ p. p.z) points) b.low.z
  pub high_x : IsGreatest (map (λ p. p.x) points) b.high.x
  pub high_y : IsGreatest (map (λ p. p.y) points) b.high.y
  pub high_z : IsGreatest (map (λ p. p.z) points) b.high.z
