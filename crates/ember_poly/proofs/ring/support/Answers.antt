use Rattle.ember_poly.proofs.ring.support.Goals as goal

pub returns-clause-valid : goal.returns-clause-valid
returns-clause-valid g c = c.r.invariant.support
