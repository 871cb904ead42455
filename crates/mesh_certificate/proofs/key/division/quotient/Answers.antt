use mir.Syntax.{w64}
use Rattle.mesh_certificate.proofs.Quotients.{stored_quotient}
use Rattle.mesh_certificate.proofs.key.division.quotient.Goals as goal

pub returns-else-divisor-eq1 : goal.returns-else-divisor-eq1
returns-else-divisor-eq1 c =
    stored_quotient w64 _ _ c.ranges.n c.ranges.divisor c.requires.nonzero c.requires.divides c.requires.small tt
