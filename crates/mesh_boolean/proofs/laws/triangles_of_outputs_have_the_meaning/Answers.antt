use Rattle.mesh_boolean.proofs.OutputMeaning.{output_means, output_winds_once_at_most}
use Rattle.mesh_boolean.proofs.laws.triangles_of_outputs_have_the_meaning.Goals as goal

pub returns-clause-means : goal.returns-clause-means
returns-clause-means c = output_means

pub returns-clause-once : goal.returns-clause-once
returns-clause-once c = output_winds_once_at_most
