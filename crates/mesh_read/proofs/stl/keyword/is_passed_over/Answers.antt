use Rattle.std.proofs.Common.{rules, arith}
use Rattle.std.proofs.lemmas.Grind.{common_steps}
use Rattle.mesh_read.proofs.stl.keyword.is_passed_over.Goals as goal

pub returns-then-is_same_word-3 : goal.returns-then-is_same_word-3
returns-then-is_same_word-3 c = first_of (search rules, grind (arith, common_steps))

pub returns-else-is_same_word-3 : goal.returns-else-is_same_word-3
returns-else-is_same_word-3 c = first_of (search rules, grind (arith, common_steps))
