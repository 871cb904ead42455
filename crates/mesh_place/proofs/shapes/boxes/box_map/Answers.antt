use Rattle.mesh_read.specs.Surface.Surfaces.{point_of}
use Rattle.mesh_place.specs.AffineMaps.{row_of}
use Rattle.mesh_place.proofs.Boxes.{rows_make_box}
use Rattle.mesh_place.proofs.shapes.boxes.box_map.Goals as goal

pub returns : goal.returns
returns c =
    rows_make_box (point_of c.args.from.now) (point_of c.args.to.now) c.in_ok-start.field-0.from c.in_ok-start.field-0.to
    c.in_ok-start.field-0.places (row_of c.in_ok-box_row.field-0) (row_of c.in_ok-box_row-2.field-0) (row_of c.in_ok-box_row-3.field-0)
    c.in_ok-start.ensures.from c.in_ok-start.ensures.to c.in_ok-box_row.ensures c.in_ok-box_row-2.ensures c.in_ok-box_row-3.ensures
