use Rattle.mesh_file.proofs.Limits.{gltf_is_within}
use Rattle.mesh_file.proofs.file.reading.read_gltf_file.Goals as goal

pub returns-in-Ok-clause-within : goal.returns-in-Ok-clause-within
returns-in-Ok-clause-within c = gltf_is_within c.args.bytes.now c.in-Ok.surface c.in-Ok.ensures.ok
