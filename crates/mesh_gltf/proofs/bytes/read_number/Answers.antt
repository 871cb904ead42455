use Rattle.std.proofs.Common.{rules, arith}
use Rattle.std.proofs.lemmas.Grind.{common_steps}
use Rattle.mesh_gltf.proofs.bytes.read_number.Goals as goal

pub bounds-bytes-at : goal.bounds-bytes-at
bounds-bytes-at c = first_of (search rules, grind (arith, common_steps))

pub overflow_add-at : goal.overflow_add-at
overflow_add-at c = first_of (search rules, grind (arith, common_steps))

pub bounds-bytes-at-2 : goal.bounds-bytes-at-2
bounds-bytes-at-2 c = first_of (search rules, grind (arith, common_steps))

pub overflow_mul-result : goal.overflow_mul-result
overflow_mul-result c = first_of (search rules, grind (arith, common_steps))

pub overflow_add-result : goal.overflow_add-result
overflow_add-result c = first_of (search rules, grind (arith, common_steps))

pub overflow_add-at-2 : goal.overflow_add-at-2
overflow_add-at-2 c = first_of (search rules, grind (arith, common_steps))

pub bounds-bytes-at-3 : goal.bounds-bytes-at-3
bounds-bytes-at-3 c = first_of (search rules, grind (arith, common_steps))

pub overflow_mul-result-2 : goal.overflow_mul-result-2
overflow_mul-result-2 c = first_of (search rules, grind (arith, common_steps))

pub overflow_add-result-2 : goal.overflow_add-result-2
overflow_add-result-2 c = first_of (search rules, grind (arith, common_steps))

pub overflow_add-at-3 : goal.overflow_add-at-3
overflow_add-at-3 c = first_of (search rules, grind (arith, common_steps))

pub bounds-bytes-at-4 : goal.bounds-bytes-at-4
bounds-bytes-at-4 c = first_of (search rules, grind (arith, common_steps))

pub overflow_mul-result-3 : goal.overflow_mul-result-3
overflow_mul-result-3 c = first_of (search rules, grind (arith, common_steps))

pub overflow_add-result-3 : goal.overflow_add-result-3
overflow_add-result-3 c = first_of (search rules, grind (arith, common_steps))

pub returns : goal.returns
returns c = first_of (search rules, grind (arith, common_steps))
