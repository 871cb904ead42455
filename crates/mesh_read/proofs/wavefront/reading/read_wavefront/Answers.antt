use Rattle.mesh_read.specs.Wavefront.Faults.{of_flaw}
use Rattle.mesh_read.specs.Wavefront.Rows.{rows_of}
use Rattle.mesh_read.specs.Wavefront.ReadWavefront.{content_in}
use Rattle.mesh_read.proofs.Flaws.{reads_surface}
use Rattle.mesh_read.proofs.WavefrontSoundness.{content_sound}
use Rattle.mesh_read.proofs.wavefront.reading.read_wavefront.Goals as goal

pub returns-clause-surface : goal.returns-clause-surface
returns-clause-surface c = reads_surface of_flaw (content_in (rows_of c.args.bytes.now)) c.read_mesh.result
    (content_sound (rows_of c.args.bytes.now)) c.read_mesh.ensures.ok
