use Rattle.std.proofs.Common.{rules, arith}
use Rattle.std.proofs.lemmas.Grind.{common_steps}
use Rattle.mesh_ply.specs.Scalars.{bits_of}
use Rattle.mesh_ply.proofs.scalars.split_u16.Goals as goal

pub split_first_chunk-requires : goal.split_first_chunk-requires
split_first_chunk-requires c = first_of (search rules, grind (arith, common_steps))

pub returns-in_err-front : goal.returns-in_err-front
unfolding bits_of
returns-in_err-front c = first_of (search rules, grind (arith, common_steps))

pub returns : goal.returns
unfolding bits_of
returns c = first_of (search rules, grind (arith, common_steps))
