use Rattle.std.proofs.Common.{rules, arith}
use Rattle.std.proofs.lemmas.Grind.{common_steps}
use Rattle.mesh_number.proofs.number.naturals.number_in.Goals as goal

pub returns-then-is_empty : goal.returns-then-is_empty
returns-then-is_empty c = first_of (search rules, grind (arith, common_steps))

pub append_digits-requires-clause-digits : goal.append_digits-requires-clause-digits
append_digits-requires-clause-digits c = first_of (search rules, grind (arith, common_steps))

pub append_digits-requires-clause-start : goal.append_digits-requires-clause-start
append_digits-requires-clause-start c = first_of (search rules, grind (arith, common_steps))

pub append_digits-requires-clause-limit : goal.append_digits-requires-clause-limit
append_digits-requires-clause-limit c = first_of (search rules, grind (arith, common_steps))

pub returns : goal.returns
returns c = first_of (search rules, grind (arith, common_steps))
