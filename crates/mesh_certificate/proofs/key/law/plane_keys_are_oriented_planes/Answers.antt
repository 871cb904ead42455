use Rattle.mesh_certificate.proofs.PlaneLaws.{plane_keys_decide, plane_keys_decide_sides}
use Rattle.mesh_certificate.proofs.key.law.plane_keys_are_oriented_planes.Goals as goal

pub returns-clause-multiples : goal.returns-clause-multiples
returns-clause-multiples c = λ p q k l hp hq. plane_keys_decide hp hq

pub returns-clause-sides : goal.returns-clause-sides
returns-clause-sides c = λ p q k l hp hq n. plane_keys_decide_sides hp hq n
