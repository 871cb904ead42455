use Rattle.std.proofs.Common.{rules, arith}
use Rattle.std.proofs.lemmas.Grind.{common_steps}
use Rattle.mesh_ply.proofs.names.axis_with_name.Goals as goal

pub returns-then-is_name : goal.returns-then-is_name
returns-then-is_name c = first_of (search rules, grind (arith, common_steps))

pub returns-then-is_name-2 : goal.returns-then-is_name-2
returns-then-is_name-2 c = first_of (search rules, grind (arith, common_steps))

pub returns-then-is_name-3 : goal.returns-then-is_name-3
returns-then-is_name-3 c = first_of (search rules, grind (arith, common_steps))

pub returns : goal.returns
returns c = first_of (search rules, grind (arith, common_steps))
