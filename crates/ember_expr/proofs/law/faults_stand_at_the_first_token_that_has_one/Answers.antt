use Rattle.ember_expr.proofs.FirstFault.{fault_is_first, first_fault_is_given}
use Rattle.ember_expr.proofs.law.faults_stand_at_the_first_token_that_has_one.Goals as goal

pub returns-clause-first : goal.returns-clause-first
returns-clause-first c = λ text meshes fault e. fault_is_first text meshes fault e

pub returns-clause-given : goal.returns-clause-given
returns-clause-given c = λ text meshes fault h. first_fault_is_given text meshes fault h
