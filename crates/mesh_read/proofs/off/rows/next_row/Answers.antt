use Rattle.std.proofs.Common.{rules, arith}
use Rattle.std.proofs.lemmas.Grind.{common_steps}
use Rattle.mesh_read.proofs.off.rows.next_row.Goals as goal

pub loop-line-init : goal.loop-line-init
loop-line-init c = first_of (search rules, grind (arith, common_steps))

pub overflow_add-rows : goal.overflow_add-rows
overflow_add-rows c = first_of (search rules, grind (arith, common_steps))

pub returns-in-Some-next_word-clause-rows : goal.returns-in-Some-next_word-clause-rows
returns-in-Some-next_word-clause-rows c = first_of (search rules, grind (arith, common_steps))

pub returns-in-Some-next_word-clause-shorter : goal.returns-in-Some-next_word-clause-shorter
returns-in-Some-next_word-clause-shorter c = first_of (search rules, grind (arith, common_steps))

pub returns-in-Some-next_word-clause-numbered : goal.returns-in-Some-next_word-clause-numbered
returns-in-Some-next_word-clause-numbered c = first_of (search rules, grind (arith, common_steps))

pub loop-line-smaller : goal.loop-line-smaller
loop-line-smaller c = first_of (search rules, grind (arith, common_steps))

pub loop-line-preserved : goal.loop-line-preserved
loop-line-preserved c = first_of (search rules, grind (arith, common_steps))

pub returns-clause-rows : goal.returns-clause-rows
returns-clause-rows c = first_of (search rules, grind (arith, common_steps))
