-- The first three corners of a face
use Rattle.std.specs.Prelude.{◌≡◌, List, Some, slice_get}
use Rattle.ember_model.specs.declared.face.Face.{Face}
use Rattle.ember_model.specs.declared.point.Spot.{Spot}
use Rattle.ember_poly.specs.Sides.{AreCorners}

-- the corners of f, in order, begin with these three
pub record HasFirstCorners (f : Face) (first second third : Spot) : Type 0 where
  pub corners : List Spot
  pub are_corners : AreCorners (λ v. v) f corners
  pub is_first : slice_get corners 0 ≡ Some first
  pub is_second : slice_get corners 1 ≡ Some second
  pub is_third : slice_get corners 2 ≡ Some third
