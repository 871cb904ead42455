use Rattle.std.specs.Prelude.{codes}
use Rattle.mesh_number.proofs.Appended.{after4, on_ok_same}
use Rattle.mesh_info.specs.Info.Lines.{quoted}
use Rattle.mesh_info.proofs.info.line.put_head.Goals as goal

pub returns : goal.returns
returns c =
    on_ok_same _ _ _ c.put_quoted-2.result c.put_quoted-2.ensures
    (after4 (codes "{") (quoted (codes "file")) (codes ": ") (quoted c.args.name.now) _ _ _ _ c.in_ok-push.ensures.items
    c.in_ok-put_quoted.ensures c.in_ok-extend_from_slice.ensures.items)
