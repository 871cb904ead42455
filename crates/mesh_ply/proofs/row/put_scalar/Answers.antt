use Rattle.std.proofs.Common.{rules, arith}
use Rattle.std.proofs.lemmas.Grind.{common_steps}
use Rattle.mesh_ply.proofs.row.put_scalar.Goals as goal

pub returns-in_default-clause-ok : goal.returns-in_default-clause-ok
returns-in_default-clause-ok c = first_of (search rules, grind (arith, common_steps))

pub returns-in_default-scalar_value-clause-fault :
    goal.returns-in_default-scalar_value-clause-fault
returns-in_default-scalar_value-clause-fault c = first_of (search rules, grind (arith, common_steps))

pub returns-in-X-clause-ok : goal.returns-in-X-clause-ok
returns-in-X-clause-ok c = first_of (search rules, grind (arith, common_steps))

pub returns-in-Y-clause-ok : goal.returns-in-Y-clause-ok
returns-in-Y-clause-ok c = first_of (search rules, grind (arith, common_steps))

pub returns-in-Z-clause-ok : goal.returns-in-Z-clause-ok
returns-in-Z-clause-ok c = first_of (search rules, grind (arith, common_steps))
