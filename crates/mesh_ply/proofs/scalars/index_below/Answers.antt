use Rattle.std.proofs.Common.{rules, arith}
use Rattle.std.proofs.lemmas.Grind.{common_steps}
use Rattle.mesh_ply.proofs.scalars.index_below.Goals as goal

pub returns-in_err-number : goal.returns-in_err-number
returns-in_err-number c = first_of (search rules, grind (arith, common_steps))

pub returns-then-number-from : goal.returns-then-number-from
returns-then-number-from c = first_of (search rules, grind (arith, common_steps))

pub overflow_cast-result : goal.overflow_cast-result
overflow_cast-result c = first_of (search rules, grind (arith, common_steps))

pub returns : goal.returns
returns c = first_of (search rules, grind (arith, common_steps))
