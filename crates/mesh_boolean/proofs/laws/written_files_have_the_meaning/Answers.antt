use Rattle.mesh_boolean.proofs.OutputTolerance.{output_means_outside_moves, output_means_outside_rounding}
use Rattle.mesh_boolean.proofs.laws.written_files_have_the_meaning.Goals as goal

pub returns-clause-files : goal.returns-clause-files
returns-clause-files c = output_means_outside_moves

pub returns-clause-grid : goal.returns-clause-grid
returns-clause-grid c = output_means_outside_rounding
