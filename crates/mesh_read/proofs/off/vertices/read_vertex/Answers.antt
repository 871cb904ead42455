use Rattle.std.proofs.Common.{rules, arith}
use Rattle.std.proofs.lemmas.Grind.{common_steps}
use Rattle.mesh_read.proofs.off.vertices.read_vertex.Goals as goal

pub returns-in_default-clause-fault : goal.returns-in_default-clause-fault
returns-in_default-clause-fault c = first_of (search rules, grind (arith, common_steps))

pub returns-in_err-x-clause-ok : goal.returns-in_err-x-clause-ok
returns-in_err-x-clause-ok c = first_of (search rules, grind (arith, common_steps))

pub returns-in_err-x-clause-fault : goal.returns-in_err-x-clause-fault
returns-in_err-x-clause-fault c = first_of (search rules, grind (arith, common_steps))

pub returns-in_err-y-clause-ok : goal.returns-in_err-y-clause-ok
returns-in_err-y-clause-ok c = first_of (search rules, grind (arith, common_steps))

pub returns-in_err-y-clause-fault : goal.returns-in_err-y-clause-fault
returns-in_err-y-clause-fault c = first_of (search rules, grind (arith, common_steps))

pub returns-in_err-z-clause-ok : goal.returns-in_err-z-clause-ok
returns-in_err-z-clause-ok c = first_of (search rules, grind (arith, common_steps))

pub returns-in_err-z-clause-fault : goal.returns-in_err-z-clause-fault
returns-in_err-z-clause-fault c = first_of (search rules, grind (arith, common_steps))

pub returns-clause-ok : goal.returns-clause-ok
returns-clause-ok c = first_of (search rules, grind (arith, common_steps))
