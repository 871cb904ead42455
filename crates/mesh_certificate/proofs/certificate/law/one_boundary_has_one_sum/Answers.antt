use Rattle.std.specs.List.{filter}
use Rattle.mesh_certificate.specs.Certificate.Chains.{is_on}
use Rattle.mesh_certificate.proofs.Boundaries.{sums_agree}
use Rattle.mesh_certificate.proofs.certificate.law.one_boundary_has_one_sum.Goals as goal

pub returns : goal.returns
returns c =
    λ ss ts h plane line f. sums_agree (filter (is_on plane line) ss) (filter (is_on plane line) ts) (h.each plane line) f
