use Rattle.ember_verdict.proofs.law.solids_are_closed.Goals as goal

pub returns : goal.returns
returns c = λ tris f bytes o. o.closed
