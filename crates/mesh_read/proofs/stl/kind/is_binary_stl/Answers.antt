use Rattle.std.proofs.Common.{rules, arith}
use Rattle.std.proofs.lemmas.Grind.{common_steps}
use Rattle.mesh_read.proofs.stl.kind.is_binary_stl.Goals as goal

pub read_number-requires : goal.read_number-requires
read_number-requires c = first_of (search rules, grind (arith, common_steps))

pub overflow_cast-result : goal.overflow_cast-result
overflow_cast-result c = first_of (search rules, grind (arith, common_steps))

pub overflow_mul-result : goal.overflow_mul-result
overflow_mul-result c = first_of (search rules, grind (arith, common_steps))

pub overflow_add-result : goal.overflow_add-result
overflow_add-result c = first_of (search rules, grind (arith, common_steps))

pub returns-then-bytes-ge-HEADER-clause-kind : goal.returns-then-bytes-ge-HEADER-clause-kind
returns-then-bytes-ge-HEADER-clause-kind c = first_of (search rules, grind (arith, common_steps))

pub returns-then-bytes-ge-HEADER-clause-length : goal.returns-then-bytes-ge-HEADER-clause-length
returns-then-bytes-ge-HEADER-clause-length c = first_of (search rules, grind (arith, common_steps))

pub returns-else-bytes-ge-HEADER-clause-kind : goal.returns-else-bytes-ge-HEADER-clause-kind
returns-else-bytes-ge-HEADER-clause-kind c = first_of (search rules, grind (arith, common_steps))

pub returns-else-bytes-ge-HEADER-clause-length : goal.returns-else-bytes-ge-HEADER-clause-length
returns-else-bytes-ge-HEADER-clause-length c = first_of (search rules, grind (arith, common_steps))
