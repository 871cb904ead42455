use Rattle.mesh_read.proofs.Flaws.{reads_surface}
use Rattle.mesh_ply.specs.ReadPly.{content_of_file, of_flaw}
use Rattle.mesh_ply.proofs.Soundness.{file_sound}
use Rattle.mesh_ply.proofs.reading.read_ply.Goals as goal

pub returns-clause-surface : goal.returns-clause-surface
returns-clause-surface c = reads_surface of_flaw (content_of_file c.args.text.now) c.read_mesh.result
    (file_sound c.args.text.now) c.read_mesh.ensures.ok
