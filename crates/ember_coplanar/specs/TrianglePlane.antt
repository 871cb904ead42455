-- A face that lies in the plane of a triangle
use Rattle.std.specs.Prelude.{◌≡◌, true, false, pos}
use Rattle.ember_model.specs.declared.point.Spot.{Spot}
use Rattle.ember_model.specs.declared.tri.Tri.{Tri}
use Rattle.ember_model.specs.declared.face.Face.{Face}
use Rattle.ember_model.specs.Planes.{support_of, value_at}
use Rattle.ember_model.specs.Faces.{is_flat, is_inside}

-- t is not flat, and each inside point of f lies on its support plane
pub record LiesOn (t : Tri) (f : Face) : Type 0 where
  pub normal : is_flat t ≡ false
  pub plane : (v : Spot) → is_inside f v ≡ true → value_at (support_of t) v ≡ pos 0
