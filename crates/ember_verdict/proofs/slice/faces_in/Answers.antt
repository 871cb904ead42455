use Rattle.ember_verdict.proofs.SliceVerdict.{form_only}
use Rattle.ember_verdict.proofs.slice.faces_in.Goals as goal

pub returns-in-Err-Form-clause-refused : goal.returns-in-Err-Form-clause-refused
returns-in-Err-Form-clause-refused c = λ at r. form_only _ c.in-Err-Form.field-0-is c.in-Err-Form.ensures.form
