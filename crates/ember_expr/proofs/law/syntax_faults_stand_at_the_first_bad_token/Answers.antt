use Rattle.ember_expr.proofs.FirstBadToken.{syntax_fault_is_first, first_bad_is_one}
use Rattle.ember_expr.proofs.law.syntax_faults_stand_at_the_first_bad_token.Goals as goal

pub returns-clause-first : goal.returns-clause-first
returns-clause-first c = λ text meshes place e. syntax_fault_is_first text meshes place e

pub returns-clause-one : goal.returns-clause-one
returns-clause-one c = λ text p q a b. first_bad_is_one text p q a b
