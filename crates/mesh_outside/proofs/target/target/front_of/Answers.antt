use Rattle.std.proofs.Common.{arith}
use Rattle.mesh_outside.proofs.NamesInFolders.{names_fit_in_their_paths}
use Rattle.mesh_outside.proofs.target.target.front_of.Goals as goal

pub overflow_sub-name : goal.overflow_sub-name
overflow_sub-name c = omega (arith, c.if-length_in_folder-le-ROOMY.false, c.length_in_folder.ensures, names_fit_in_their_paths c.args.name.now)

pub returns : goal.returns
returns c = (
  λ short. absurd (omega (arith, short, c.if-length_in_folder-le-ROOMY.false, c.length_in_folder.ensures)),
  λ long. (
    c.floor_char_boundary-end.result,
    omega (arith, long, c.floor_char_boundary-end.ensures.bound, names_fit_in_their_paths c.args.name.now),
    c.split_at.ensures.front,
  ),
)
