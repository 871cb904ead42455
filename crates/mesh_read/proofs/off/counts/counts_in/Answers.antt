use Rattle.std.proofs.Common.{rules, arith}
use Rattle.std.proofs.lemmas.Grind.{common_steps}
use Rattle.mesh_read.proofs.RowCounts.{counts_both, counts_no_first, counts_no_second}
use Rattle.mesh_read.proofs.off.counts.counts_in.Goals as goal

pub returns-in_err-second-clause-value : goal.returns-in_err-second-clause-value
returns-in_err-second-clause-value c = first_of (search rules, grind (arith, counts_both, counts_no_first, counts_no_second), grind (arith, common_steps))

pub returns-in_err-second-clause-small : goal.returns-in_err-second-clause-small
returns-in_err-second-clause-small c = first_of (search rules, grind (arith, counts_both, counts_no_first, counts_no_second), grind (arith, common_steps))

pub returns-in_err-vertices-clause-value : goal.returns-in_err-vertices-clause-value
returns-in_err-vertices-clause-value c = first_of (search rules, grind (arith, counts_both, counts_no_first, counts_no_second), grind (arith, common_steps))

pub returns-in_err-vertices-clause-small : goal.returns-in_err-vertices-clause-small
returns-in_err-vertices-clause-small c = first_of (search rules, grind (arith, counts_both, counts_no_first, counts_no_second), grind (arith, common_steps))

pub returns-in_err-faces-clause-value : goal.returns-in_err-faces-clause-value
returns-in_err-faces-clause-value c = first_of (search rules, grind (arith, counts_both, counts_no_first, counts_no_second), grind (arith, common_steps))

pub returns-in_err-faces-clause-small : goal.returns-in_err-faces-clause-small
returns-in_err-faces-clause-small c = first_of (search rules, grind (arith, counts_both, counts_no_first, counts_no_second), grind (arith, common_steps))

pub returns-clause-value : goal.returns-clause-value
returns-clause-value c = first_of (search rules, grind (arith, counts_both, counts_no_first, counts_no_second), grind (arith, common_steps))

pub returns-clause-small : goal.returns-clause-small
returns-clause-small c = first_of (search rules, grind (arith, counts_both, counts_no_first, counts_no_second), grind (arith, common_steps))
