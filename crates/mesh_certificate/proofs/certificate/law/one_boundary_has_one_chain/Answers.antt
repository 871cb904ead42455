use Rattle.mesh_certificate.proofs.Boundaries.{chains_from_boundary}
use Rattle.mesh_certificate.proofs.certificate.law.one_boundary_has_one_chain.Goals as goal

pub returns : goal.returns
returns c = chains_from_boundary
