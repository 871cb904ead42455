use Rattle.ember_verdict.proofs.slice.slice_of.Goals as goal

pub returns-in-Err-clause-refused : goal.returns-in-Err-clause-refused
returns-in-Err-clause-refused c = λ r. c.in-Err.ensures.refused c.args.at r
