use Rattle.mesh_solid.proofs.ReadBack.{never_refused}
use Rattle.mesh_solid.proofs.mesh.solid.faces_in.Goals as goal

pub unreachable-requires : goal.unreachable-requires
unreachable-requires c =
    never_refused c.args.file.now _ c.requires c.in-Err-Form.field-0-is c.in-Err-Form.ensures.form
