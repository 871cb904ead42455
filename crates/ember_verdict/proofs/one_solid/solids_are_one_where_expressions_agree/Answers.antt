use Rattle.ember_verdict.proofs.OneSolid.{agreeing_solids_are_one, one_solid_agrees}
use Rattle.ember_verdict.proofs.one_solid.solids_are_one_where_expressions_agree.Goals as goal

pub returns : goal.returns
returns c = λ tris meshes f g scene one other a b. (
  one_solid_agrees tris meshes f g one other scene a b,
  agreeing_solids_are_one tris meshes f g one other scene a b,
)
