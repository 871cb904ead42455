use Rattle.std.proofs.lemmas.Result.{IfOk-weaker}
use Rattle.mesh_write.proofs.GlbReadBack.{read_back}
use Rattle.mesh_write.proofs.glb.writing.glb_bytes.Goals as goal

pub returns-then-not-is_empty-clause-read_back : goal.returns-then-not-is_empty-clause-read_back
returns-then-not-is_empty-clause-read_back c = λ some. IfOk-weaker c.with_mesh.result _ _
    (λ bytes glb. read_back c.args.triangles.now bytes.items glb) c.with_mesh.ensures.glb
