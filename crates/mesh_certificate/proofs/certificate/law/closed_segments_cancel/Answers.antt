use Rattle.mesh_certificate.proofs.Cancels.{closed_cancels}
use Rattle.mesh_certificate.proofs.certificate.law.closed_segments_cancel.Goals as goal

pub returns : goal.returns
returns c = λ ss h f odd. closed_cancels f odd.each ss h
