use Rattle.std.proofs.Common.{codes}
use Rattle.mesh_write.specs.Text.Lines.{coordinate_text, spaced, point_line}
use Rattle.mesh_number.proofs.Appended.{after4, on_ok_if}
use Rattle.mesh_shapes.specs.Texts.{most_places, units_of}
use Rattle.mesh_shapes.proofs.texts.put_point.Goals as goal

pub returns-clause-text : goal.returns-clause-text
unfolding point_line
returns-clause-text c =
    let p = c.args.point.now in
    on_ok_if _ _ c.extend_from_slice.result c.extend_from_slice.ensures.items
    (after4 (coordinate_text most_places (units_of p.x)) (spaced most_places (units_of p.y)) (spaced most_places (units_of p.z)) (codes "\n") _ _ _ _
    c.in_ok-put_coordinate.ensures.text c.in_ok-put_spaced.ensures.text c.in_ok-put_spaced-2.ensures.text)
