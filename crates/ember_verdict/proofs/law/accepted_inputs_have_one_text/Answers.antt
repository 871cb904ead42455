use Rattle.ember_verdict.proofs.AcceptedScenes.{input_one, err_one}
use Rattle.ember_verdict.proofs.law.accepted_inputs_have_one_text.Goals as goal

pub returns-clause-out : goal.returns-clause-out
returns-clause-out c = λ words told decided one other a b. input_one words told one other decided a b

pub returns-clause-err : goal.returns-clause-err
returns-clause-err c = λ words told decided status one other a b. err_one words told status one other decided a b
