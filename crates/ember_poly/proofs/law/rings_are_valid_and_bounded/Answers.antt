use Rattle.ember_poly.proofs.law.rings_are_valid_and_bounded.Goals as goal

pub returns-clause-valid : goal.returns-clause-valid
returns-clause-valid c =
    record { support = c.rings_are_bounded.ensures.support; edges = c.rings_are_bounded.ensures.edges }
