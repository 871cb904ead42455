use Rattle.mesh_grid.proofs.CornerMarks.{marked_one, marked_past}
use Rattle.mesh_grid.proofs.grid.marks.mark.Goals as goal

pub returns-then-index-marks : goal.returns-then-index-marks
returns-then-index-marks c = marked_one c.args.marks.now c.args.corner c.if-index-marks.true

pub returns-else-index-marks : goal.returns-else-index-marks
returns-else-index-marks c = marked_past c.args.marks.now c.args.corner c.if-index-marks.false
