use Rattle.std.proofs.Common.{rules, arith}
use Rattle.std.proofs.lemmas.Grind.{common_steps}
use Rattle.mesh_number.proofs.number.texts.split_exponent.Goals as goal

pub loop-end-init : goal.loop-end-init
loop-end-init c = first_of (search rules, grind (arith, common_steps))

pub bounds-text-end : goal.bounds-text-end
bounds-text-end c = first_of (search rules, grind (arith, common_steps))

pub bounds-text-end-then-text-end-ne101 : goal.bounds-text-end-then-text-end-ne101
bounds-text-end-then-text-end-ne101 c = first_of (search rules, grind (arith, common_steps))

pub overflow_add-end : goal.overflow_add-end
overflow_add-end c = first_of (search rules, grind (arith, common_steps))

pub loop-end-smaller : goal.loop-end-smaller
loop-end-smaller c = first_of (search rules, grind (arith, common_steps))

pub loop-end-preserved : goal.loop-end-preserved
loop-end-preserved c = first_of (search rules, grind (arith, common_steps))

pub split_at-requires : goal.split_at-requires
split_at-requires c = first_of (search rules, grind (arith, common_steps))

pub returns-in-Some-clause-mantissa : goal.returns-in-Some-clause-mantissa
returns-in-Some-clause-mantissa c = first_of (search rules, grind (arith, common_steps))

pub returns-in-Some-clause-exponent : goal.returns-in-Some-clause-exponent
returns-in-Some-clause-exponent c = first_of (search rules, grind (arith, common_steps))

pub returns-in-None-clause-mantissa : goal.returns-in-None-clause-mantissa
returns-in-None-clause-mantissa c = first_of (search rules, grind (arith, common_steps))

pub returns-in-None-clause-exponent : goal.returns-in-None-clause-exponent
returns-in-None-clause-exponent c = first_of (search rules, grind (arith, common_steps))
