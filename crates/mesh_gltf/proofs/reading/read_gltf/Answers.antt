use Rattle.mesh_read.proofs.Flaws.{reads_surface}
use Rattle.mesh_gltf.specs.ReadGltf.{content_in, of_flaw}
use Rattle.mesh_gltf.proofs.Soundness.{content_sound}
use Rattle.mesh_gltf.proofs.reading.read_gltf.Goals as goal

pub returns-clause-surface : goal.returns-clause-surface
returns-clause-surface c = reads_surface of_flaw (content_in c.args.bytes.now) c.read_mesh.result
    (content_sound c.args.bytes.now) c.read_mesh.ensures.ok
