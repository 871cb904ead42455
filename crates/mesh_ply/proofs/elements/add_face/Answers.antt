use Rattle.std.proofs.Common.{rules, arith}
use Rattle.std.proofs.lemmas.Grind.{common_steps}
use Rattle.mesh_ply.proofs.elements.add_face.Goals as goal

pub returns-then-not-row-clause-fault : goal.returns-then-not-row-clause-fault
returns-then-not-row-clause-fault c = first_of (search rules, grind (arith, common_steps))

pub returns-then-len-lt3-clause-fault : goal.returns-then-len-lt3-clause-fault
returns-then-len-lt3-clause-fault c = first_of (search rules, grind (arith, common_steps))

pub returns-then-is_err-clause-fault : goal.returns-then-is_err-clause-fault
returns-then-is_err-clause-fault c = first_of (search rules, grind (arith, common_steps))

pub returns-clause-ok : goal.returns-clause-ok
returns-clause-ok c = first_of (search rules, grind (arith, common_steps))

pub returns-clause-count : goal.returns-clause-count
returns-clause-count c = first_of (search rules, grind (arith, common_steps))
