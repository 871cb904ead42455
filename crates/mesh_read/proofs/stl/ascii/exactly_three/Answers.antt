use Rattle.std.proofs.Common.{rules, arith}
use Rattle.std.proofs.lemmas.Grind.{common_steps}
use Rattle.mesh_read.proofs.stl.ascii.exactly_three.Goals as goal

pub returns-in_err-a : goal.returns-in_err-a
returns-in_err-a c = first_of (search rules, grind (arith, common_steps))

pub returns-in_err-b : goal.returns-in_err-b
returns-in_err-b c = first_of (search rules, grind (arith, common_steps))

pub returns-in_err-c : goal.returns-in_err-c
returns-in_err-c c = first_of (search rules, grind (arith, common_steps))

pub returns-then-is_empty : goal.returns-then-is_empty
returns-then-is_empty c = first_of (search rules, grind (arith, common_steps))

pub returns-else-is_empty : goal.returns-else-is_empty
returns-else-is_empty c = first_of (search rules, grind (arith, common_steps))
