use Rattle.std.specs.Prelude.{codes}
use Rattle.mesh_number.proofs.Appended.{after4, on_ok_same}
use Rattle.mesh_info.specs.Info.Lines.{key_text, point_text}
use Rattle.mesh_info.proofs.info.line.put_box.Goals as goal

pub returns : goal.returns
returns c =
    let b = c.args.bounds.now in
    on_ok_same _ _ _ c.put_point-2.result c.put_point-2.ensures
    (after4 (key_text (codes "from")) (point_text b.lower) (key_text (codes "to")) (point_text b.upper) _ _ _ _
    c.in_ok-put_key.ensures c.in_ok-put_point.ensures c.in_ok-put_key-2.ensures)
