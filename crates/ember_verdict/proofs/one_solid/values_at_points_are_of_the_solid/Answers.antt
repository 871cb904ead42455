use Rattle.ember_verdict.proofs.OneSolid.{value_of_faces}
use Rattle.ember_verdict.proofs.one_solid.values_at_points_are_of_the_solid.Goals as goal

pub returns : goal.returns
returns c = λ tris formula faces solid point text given. value_of_faces tris formula solid.file solid.document faces solid.read point
    given.meshes text given.weight given.clear given.output
