use Rattle.mesh_certificate.proofs.Boundaries.{boundary_from_chains}
use Rattle.mesh_certificate.proofs.certificate.law.one_chain_has_one_boundary.Goals as goal

pub returns : goal.returns
returns c = boundary_from_chains
