use Rattle.mesh_outside.specs.Target.Several.{names_and_bytes}
use Rattle.mesh_run.proofs.FilesMade.{one_mesh_more}
use Rattle.mesh_run.proofs.files.put_meshes.Goals as goal

pub loop-index-preserved : goal.loop-index-preserved
loop-index-preserved c =
    one_mesh_more c.args.folder.now c.args.tris.now c.loop-index.index (names_and_bytes c.args.files.now.items)
    (names_and_bytes c.loop-index.files.items) (names_and_bytes c.put_mesh.new.files.items) c.loop-index.invariant
    c.in_ok-put_mesh.ensures
