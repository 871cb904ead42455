use Rattle.mesh_solid.proofs.Apart.{common_inside_is_not_apart}
use Rattle.mesh_solid.proofs.refusal.law.faces_with_a_common_inside_point_are_not_apart.Goals as goal

pub returns : goal.returns
returns c = λ v w p a b. common_inside_is_not_apart v w p a.round b.round a.inside b.inside
