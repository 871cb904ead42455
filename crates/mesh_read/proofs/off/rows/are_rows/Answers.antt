use Rattle.std.proofs.Common.{rules, arith}
use Rattle.std.proofs.lemmas.Grind.{common_steps}
use Rattle.mesh_read.proofs.off.rows.are_rows.Goals as goal

pub loop-left-init : goal.loop-left-init
loop-left-init c = first_of (search rules, grind (arith, common_steps))

pub next_row-requires : goal.next_row-requires
next_row-requires c = first_of (search rules, grind (arith, common_steps))

pub returns-in_default : goal.returns-in_default
returns-in_default c = first_of (search rules, grind (arith, common_steps))

pub overflow_sub-left : goal.overflow_sub-left
overflow_sub-left c = first_of (search rules, grind (arith, common_steps))

pub loop-left-smaller : goal.loop-left-smaller
loop-left-smaller c = first_of (search rules, grind (arith, common_steps))

pub loop-left-preserved : goal.loop-left-preserved
loop-left-preserved c = first_of (search rules, grind (arith, common_steps))

pub returns : goal.returns
returns c = first_of (search rules, grind (arith, common_steps))
