use Rattle.mesh_read.specs.Off.Rows.{rows_of}
use Rattle.mesh_read.specs.Off.ReadOff.{content_in, of_flaw}
use Rattle.mesh_read.proofs.Flaws.{reads_surface}
use Rattle.mesh_read.proofs.Soundness.{content_sound}
use Rattle.mesh_read.proofs.off.reading.read_off.Goals as goal

pub returns-clause-surface : goal.returns-clause-surface
returns-clause-surface c = reads_surface of_flaw (content_in (rows_of c.args.bytes.now)) c.read_mesh.result
    (content_sound (rows_of c.args.bytes.now)) c.read_mesh.ensures.ok
