use Rattle.std.proofs.Common.{rules, arith}
use Rattle.std.proofs.lemmas.Grind.{common_steps}
use Rattle.mesh_number.proofs.number.texts.decimal_of_parts.Goals as goal

pub returns-then-not-are_digits : goal.returns-then-not-are_digits
returns-then-not-are_digits c = first_of (search rules, grind (arith, common_steps))

pub invariant_of-result : goal.invariant_of-result
invariant_of-result c = first_of (search rules, grind (arith, common_steps))

pub returns-in-Some : goal.returns-in-Some
returns-in-Some c = first_of (search rules, grind (arith, common_steps))

pub returns-in-None : goal.returns-in-None
returns-in-None c = first_of (search rules, grind (arith, common_steps))
