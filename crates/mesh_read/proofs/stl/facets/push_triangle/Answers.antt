use Rattle.std.proofs.Common.{rules, arith}
use Rattle.std.proofs.lemmas.Grind.{common_steps}
use Rattle.mesh_read.proofs.stl.facets.push_triangle.Goals as goal

pub overflow_cast-first : goal.overflow_cast-first
overflow_cast-first c = first_of (search rules, grind (arith, common_steps))

pub returns-in_err-push-clause-content : goal.returns-in_err-push-clause-content
returns-in_err-push-clause-content c = first_of (search rules, grind (arith, common_steps))

pub returns-in_err-push-clause-count : goal.returns-in_err-push-clause-count
returns-in_err-push-clause-count c = first_of (search rules, grind (arith, common_steps))

pub returns-in_err-push-clause-surface : goal.returns-in_err-push-clause-surface
returns-in_err-push-clause-surface c = first_of (search rules, grind (arith, common_steps))

pub returns-in_err-push-2-clause-content : goal.returns-in_err-push-2-clause-content
returns-in_err-push-2-clause-content c = first_of (search rules, grind (arith, common_steps))

pub returns-in_err-push-2-clause-count : goal.returns-in_err-push-2-clause-count
returns-in_err-push-2-clause-count c = first_of (search rules, grind (arith, common_steps))

pub returns-in_err-push-2-clause-surface : goal.returns-in_err-push-2-clause-surface
returns-in_err-push-2-clause-surface c = first_of (search rules, grind (arith, common_steps))

pub returns-in_err-push-3-clause-content : goal.returns-in_err-push-3-clause-content
returns-in_err-push-3-clause-content c = first_of (search rules, grind (arith, common_steps))

pub returns-in_err-push-3-clause-count : goal.returns-in_err-push-3-clause-count
returns-in_err-push-3-clause-count c = first_of (search rules, grind (arith, common_steps))

pub returns-in_err-push-3-clause-surface : goal.returns-in_err-push-3-clause-surface
returns-in_err-push-3-clause-surface c = first_of (search rules, grind (arith, common_steps))

pub overflow_add-first : goal.overflow_add-first
overflow_add-first c = first_of (search rules, grind (arith, common_steps))

pub overflow_add-first-2 : goal.overflow_add-first-2
overflow_add-first-2 c = first_of (search rules, grind (arith, common_steps))

pub returns-in_err-push-4-clause-content : goal.returns-in_err-push-4-clause-content
returns-in_err-push-4-clause-content c = first_of (search rules, grind (arith, common_steps))

pub returns-in_err-push-4-clause-count : goal.returns-in_err-push-4-clause-count
returns-in_err-push-4-clause-count c = first_of (search rules, grind (arith, common_steps))

pub returns-in_err-push-4-clause-surface : goal.returns-in_err-push-4-clause-surface
returns-in_err-push-4-clause-surface c = first_of (search rules, grind (arith, common_steps))

pub returns-clause-content : goal.returns-clause-content
returns-clause-content c = first_of (search rules, grind (arith, common_steps))

pub returns-clause-count : goal.returns-clause-count
returns-clause-count c = first_of (search rules, grind (arith, common_steps))
