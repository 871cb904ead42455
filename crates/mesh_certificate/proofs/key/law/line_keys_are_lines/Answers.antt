use Rattle.mesh_certificate.proofs.LineLaws.{line_keys_decide}
use Rattle.mesh_certificate.proofs.key.law.line_keys_are_lines.Goals as goal

pub returns : goal.returns
returns c = λ p q r s k l hk hl. line_keys_decide hk hl
