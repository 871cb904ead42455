-- Faces with the same points, and the face of an outline's planes
use Rattle.std.specs.Prelude.{◌≡◌, List, map}
use Rattle.ember_model.specs.declared.plane.Plane.{Plane}
use Rattle.ember_model.specs.declared.point.Spot.{Spot}
use Rattle.ember_model.specs.declared.face.Face.{Face}
use Rattle.ember_model.specs.Faces.{is_inside, is_in_closed}
use Rattle.ember_model.specs.Edges.{RingEdge}

-- f and g have one support plane, the same inside points and the same closed points
pub record SamePoints (f g : Face) : Type 0 where
  pub support : f.support ≡ g.support
  pub inside : (v : Spot) → is_inside f v ≡ is_inside g v
  pub closed : (v : Spot) → is_in_closed f v ≡ is_in_closed g v

-- the face in the plane n that has the planes of these edges
abbrev pub face_of_edges : Plane → List RingEdge → Face
face_of_edges n es = record { support = n; edges = map (λ e. e.plane) es }
