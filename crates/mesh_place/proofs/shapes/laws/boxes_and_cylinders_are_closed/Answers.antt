use Rattle.mesh_place.proofs.ClosedShapes.{box_has_no_boundary, cylinder_has_no_boundary}
use Rattle.mesh_place.proofs.shapes.laws.boxes_and_cylinders_are_closed.Goals as goal

pub returns : goal.returns
returns c = record { boxes = box_has_no_boundary; cylinders = cylinder_has_no_boundary }
