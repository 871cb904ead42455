use Rattle.std.proofs.Common.{rules, arith}
use Rattle.std.proofs.lemmas.Grind.{common_steps}
use Rattle.mesh_ply.proofs.cursor.next_filled.Goals as goal

pub loop-line-init : goal.loop-line-init
loop-line-init c = first_of (search rules, grind (arith, common_steps))

pub returns-then-is_some-clause-rows : goal.returns-then-is_some-clause-rows
returns-then-is_some-clause-rows c = first_of (search rules, grind (arith, common_steps))

pub returns-then-is_some-clause-left : goal.returns-then-is_some-clause-left
returns-then-is_some-clause-left c = first_of (search rules, grind (arith, common_steps))

pub loop-line-smaller : goal.loop-line-smaller
loop-line-smaller c = first_of (search rules, grind (arith, common_steps))

pub loop-line-preserved : goal.loop-line-preserved
loop-line-preserved c = first_of (search rules, grind (arith, common_steps))

pub returns-clause-rows : goal.returns-clause-rows
returns-clause-rows c = first_of (search rules, grind (arith, common_steps))
