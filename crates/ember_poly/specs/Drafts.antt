-- What the lists of a draft hold
use Rattle.ember_model.specs.declared.plane.Plane.{Plane}
use Rattle.ember_model.specs.declared.point.Spot.{Spot}
use Rattle.ember_model.specs.declared.face.Face.{Face}
use Rattle.ember_poly.specs.declared.draft.Draft.{Draft}
use Rattle.ember_poly.specs.Sides.{IsRing}

-- the face of a draft
abbrev pub face_in : {W M : Type 0} → Draft W M → Face
face_in d = record { support = d.support; edges = d.planes.items }

-- the lists are those of a ring
abbrev pub HoldsRing : {W M : Type 0} → (Plane → Type 0) → (M → Spot) → Draft W M → Type 0
HoldsRing IsPlane spot d =
    IsRing IsPlane spot d.support d.planes.items d.boundary.edges.items d.boundary.corners.items
    d.boundary.plane_indices.items
