use Rattle.mesh_write.proofs.ReadBack.{read_back}
use Rattle.mesh_write.proofs.stl.writing.stl_bytes.Goals as goal

pub returns-in-Ok-all_bytes-clause-read_back : goal.returns-in-Ok-all_bytes-clause-read_back
returns-in-Ok-all_bytes-clause-read_back c = read_back c.args.triangles.now c.in-Ok-all_bytes.bytes.items c.in-Ok-all_bytes.ensures
