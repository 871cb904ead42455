use Rattle.std.proofs.Common.{rules, arith}
use Rattle.std.proofs.lemmas.Grind.{common_steps}
use Rattle.mesh_number.proofs.number.floats.binary32.Goals as goal

pub overflow_mul-minus : goal.overflow_mul-minus
overflow_mul-minus c = first_of (search rules, grind (arith, common_steps))

pub nonzero_div-minus : goal.nonzero_div-minus
nonzero_div-minus c = first_of (search rules, grind (arith, common_steps))

pub overflow_sub-t-8 : goal.overflow_sub-t-8
overflow_sub-t-8 c = first_of (search rules, grind (arith, common_steps))

pub returns-then-exponent : goal.returns-then-exponent
returns-then-exponent c = first_of (search rules, grind (arith, common_steps))

pub overflow_add-significand : goal.overflow_add-significand
overflow_add-significand c = first_of (search rules, grind (arith, common_steps))

pub overflow_sub-significand : goal.overflow_sub-significand
overflow_sub-significand c = first_of (search rules, grind (arith, common_steps))

pub overflow_cast-result : goal.overflow_cast-result
overflow_cast-result c = first_of (search rules, grind (arith, common_steps))

pub returns : goal.returns
returns c = first_of (search rules, grind (arith, common_steps))
