-- Faces that are bounded
use Rattle.ember_model.specs.declared.plane.Plane.{Plane}
use Rattle.ember_model.specs.declared.point.Spot.{Spot}
use Rattle.ember_model.specs.declared.face.Face.{Face}
use Rattle.ember_poly.specs.Rings.{InClosedFace, IsNotHigher}

-- the value of p is greatest, over all points of the closed face, at one of them
pub record IsBoundedBy (p : Plane) (f : Face) : Type 0 where
  pub farthest : Spot
  pub member : InClosedFace f.support f.edges farthest
  pub greatest : (v : Spot) → InClosedFace f.support f.edges v → IsNotHigher p v farthest
