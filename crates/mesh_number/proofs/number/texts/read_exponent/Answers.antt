use Rattle.std.proofs.Common.{rules, arith}
use Rattle.std.proofs.lemmas.Grind.{common_steps}
use Rattle.mesh_number.proofs.number.texts.read_exponent.Goals as goal

pub returns-then-is_empty : goal.returns-then-is_empty
returns-then-is_empty c = first_of (search rules, grind (arith, common_steps))

pub append_digits-size-requires-clause-digits : goal.append_digits-size-requires-clause-digits
append_digits-size-requires-clause-digits c = first_of (search rules, grind (arith, common_steps))

pub append_digits-size-requires-clause-start : goal.append_digits-size-requires-clause-start
append_digits-size-requires-clause-start c = first_of (search rules, grind (arith, common_steps))

pub append_digits-size-requires-clause-limit : goal.append_digits-size-requires-clause-limit
append_digits-size-requires-clause-limit c = first_of (search rules, grind (arith, common_steps))

pub returns-then-size-ge-EXPONENT_LIMIT : goal.returns-then-size-ge-EXPONENT_LIMIT
returns-then-size-ge-EXPONENT_LIMIT c = first_of (search rules, grind (arith, common_steps))

pub overflow_cast-result : goal.overflow_cast-result
overflow_cast-result c = first_of (search rules, grind (arith, common_steps))

pub returns : goal.returns
returns c = first_of (search rules, grind (arith, common_steps))
