use Rattle.mesh_shapes.proofs.ShapesRead.{shape_is_read}
use Rattle.mesh_shapes.proofs.shapes.shape_texts_are_read.Goals as goal

pub returns : goal.returns
returns c = shape_is_read
