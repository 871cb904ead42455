use Rattle.std.proofs.Common.{rules, arith}
use Rattle.std.proofs.lemmas.Grind.{common_steps}
use Rattle.mesh_read.proofs.stl.binary.add_facet.Goals as goal

pub overflow_mul-start : goal.overflow_mul-start
overflow_mul-start c = first_of (search rules, grind (arith, common_steps))

pub overflow_add-start : goal.overflow_add-start
overflow_add-start c = first_of (search rules, grind (arith, common_steps))

pub read_point-requires : goal.read_point-requires
read_point-requires c = first_of (search rules, grind (arith, common_steps))

pub overflow_add-result : goal.overflow_add-result
overflow_add-result c = first_of (search rules, grind (arith, common_steps))

pub returns-in_default-clause-fault : goal.returns-in_default-clause-fault
returns-in_default-clause-fault c = first_of (search rules, grind (arith, common_steps))

pub overflow_add-start-2 : goal.overflow_add-start-2
overflow_add-start-2 c = first_of (search rules, grind (arith, common_steps))

pub read_point-requires-2 : goal.read_point-requires-2
read_point-requires-2 c = first_of (search rules, grind (arith, common_steps))

pub overflow_add-result-in_default-read_point : goal.overflow_add-result-in_default-read_point
overflow_add-result-in_default-read_point c = first_of (search rules, grind (arith, common_steps))

pub returns-in_default-read_point-clause-fault : goal.returns-in_default-read_point-clause-fault
returns-in_default-read_point-clause-fault c = first_of (search rules, grind (arith, common_steps))

pub overflow_add-start-3 : goal.overflow_add-start-3
overflow_add-start-3 c = first_of (search rules, grind (arith, common_steps))

pub read_point-requires-3 : goal.read_point-requires-3
read_point-requires-3 c = first_of (search rules, grind (arith, common_steps))

pub overflow_add-result-in_default-read_point-2 : goal.overflow_add-result-in_default-read_point-2
overflow_add-result-in_default-read_point-2 c = first_of (search rules, grind (arith, common_steps))

pub returns-in_default-read_point-2-clause-fault : goal.returns-in_default-read_point-2-clause-fault
returns-in_default-read_point-2-clause-fault c = first_of (search rules, grind (arith, common_steps))

pub overflow_add-facet : goal.overflow_add-facet
overflow_add-facet c = first_of (search rules, grind (arith, common_steps))

pub push_triangle-requires-clause-few : goal.push_triangle-requires-clause-few
push_triangle-requires-clause-few c = first_of (search rules, grind (arith, common_steps))

pub push_triangle-requires-clause-surface : goal.push_triangle-requires-clause-surface
push_triangle-requires-clause-surface c = first_of (search rules, grind (arith, common_steps))

pub returns-then-is_err-clause-fault : goal.returns-then-is_err-clause-fault
returns-then-is_err-clause-fault c = first_of (search rules, grind (arith, common_steps))

pub returns-clause-ok : goal.returns-clause-ok
returns-clause-ok c = first_of (search rules, grind (arith, common_steps))

pub returns-clause-surface : goal.returns-clause-surface
returns-clause-surface c = first_of (search rules, grind (arith, common_steps))

pub returns-clause-count : goal.returns-clause-count
returns-clause-count c = first_of (search rules, grind (arith, common_steps))
